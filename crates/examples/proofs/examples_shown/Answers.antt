use Rattle.std.proofs.Common.{refl}
use Rattle.examples.proofs.examples_shown.Goals as goal
use Rattle.examples.proofs.Shown.{shown}

pub returns : goal.returns
returns c = record { hold = shown; count = refl }
