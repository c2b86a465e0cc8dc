use Rattle.transactions.proofs.laws.read_elsewhere_keeps.Goals as goal
use Rattle.transactions.proofs.Theorems.{read_elsewhere_keeps}

pub returns : goal.returns
returns c = read_elsewhere_keeps
