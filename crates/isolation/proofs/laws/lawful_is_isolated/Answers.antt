use Rattle.isolation.proofs.laws.lawful_is_isolated.Goals as goal
use Rattle.isolation.proofs.Theorems.{lawful_is_isolated}

pub returns : goal.returns
returns c = lawful_is_isolated
