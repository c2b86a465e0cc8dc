use Rattle.isolation.proofs.laws.vectors_decide.Goals as goal
use Rattle.isolation.proofs.Theorems.{vectors_decide}

pub returns : goal.returns
returns c = vectors_decide
