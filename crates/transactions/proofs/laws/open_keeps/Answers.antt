use Rattle.transactions.proofs.laws.open_keeps.Goals as goal
use Rattle.transactions.proofs.Theorems.{open_keeps}

pub returns : goal.returns
returns c = open_keeps
