use Rattle.isolation.proofs.laws.rules_have_vectors.Goals as goal
use Rattle.isolation.proofs.Theorems.{rules_have_vectors}

pub returns : goal.returns
returns c = rules_have_vectors
