use Rattle.isolation.proofs.laws.steps_keep_law.Goals as goal
use Rattle.isolation.proofs.Theorems.{steps_keep_law}

pub returns : goal.returns
returns c = steps_keep_law
