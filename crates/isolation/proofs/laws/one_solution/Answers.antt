use Rattle.isolation.proofs.laws.one_solution.Goals as goal
use Rattle.isolation.proofs.Theorems.{one_solution}

pub returns : goal.returns
returns c = one_solution
