use Rattle.isolation.proofs.laws.fitting_is_consistent.Goals as goal
use Rattle.isolation.proofs.Theorems.{fitting_is_consistent}

pub returns : goal.returns
returns c = fitting_is_consistent
