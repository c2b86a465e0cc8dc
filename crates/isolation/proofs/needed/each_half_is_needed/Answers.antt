use Rattle.isolation.proofs.needed.each_half_is_needed.Goals as goal
use Rattle.isolation.proofs.Cases.{each_half_is_needed}

pub returns : goal.returns
returns c = each_half_is_needed
