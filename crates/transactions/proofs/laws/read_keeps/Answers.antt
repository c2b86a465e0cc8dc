use Rattle.transactions.proofs.laws.read_keeps.Goals as goal
use Rattle.transactions.proofs.Theorems.{read_keeps}

pub returns : goal.returns
returns c = read_keeps
