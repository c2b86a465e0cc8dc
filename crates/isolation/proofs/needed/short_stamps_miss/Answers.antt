use Rattle.isolation.proofs.needed.short_stamps_miss.Goals as goal
use Rattle.isolation.proofs.Short.{short_stamps_miss}

pub returns : goal.returns
returns c = short_stamps_miss
