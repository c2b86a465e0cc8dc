use Rattle.transactions.proofs.laws.conflict_alone_ends.Goals as goal
use Rattle.transactions.proofs.Theorems.{conflict_alone_ends}

pub returns : goal.returns
returns c = conflict_alone_ends
