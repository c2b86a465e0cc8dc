-- What a session is to carry out. Assumes nothing.
--     Readied         how much memory the books have, and the commands of the script
use Rattle.std.specs.Prelude.{List}
use Rattle.transactions.specs.State.{Sizes}
use Rattle.sessions.specs.declared.command.Command.{Command}

pub record Readied : Type 0 where
  pub sizes : Sizes
  pub script : List Command
