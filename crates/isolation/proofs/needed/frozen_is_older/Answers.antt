use Rattle.isolation.proofs.needed.frozen_is_older.Goals as goal
use Rattle.isolation.proofs.Cases.{frozen_is_older}

pub returns : goal.returns
returns c = frozen_is_older
