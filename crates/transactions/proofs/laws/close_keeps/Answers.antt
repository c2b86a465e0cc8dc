use Rattle.transactions.proofs.laws.close_keeps.Goals as goal
use Rattle.transactions.proofs.Theorems.{close_keeps}

pub returns : goal.returns
returns c = close_keeps
