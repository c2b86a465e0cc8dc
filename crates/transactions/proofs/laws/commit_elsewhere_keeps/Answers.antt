use Rattle.transactions.proofs.laws.commit_elsewhere_keeps.Goals as goal
use Rattle.transactions.proofs.Theorems.{commit_elsewhere_keeps}

pub returns : goal.returns
returns c = commit_elsewhere_keeps
