use Rattle.transactions.proofs.laws.commit_keeps.Goals as goal
use Rattle.transactions.proofs.Theorems.{commit_keeps}

pub returns : goal.returns
returns c = commit_keeps
