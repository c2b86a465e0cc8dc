use Rattle.transactions.proofs.laws.abandon_keeps.Goals as goal
use Rattle.transactions.proofs.Theorems.{abandon_keeps}

pub returns : goal.returns
returns c = abandon_keeps
