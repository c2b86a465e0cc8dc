use Rattle.isolation.proofs.laws.conflict_is_clash.Goals as goal
use Rattle.isolation.proofs.Theorems.{conflict_is_clash}

pub returns : goal.returns
returns c = conflict_is_clash
