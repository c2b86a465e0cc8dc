use Rattle.isolation.proofs.laws.newest_fit_is_newest.Goals as goal
use Rattle.isolation.proofs.Theorems.{newest_fit_is_newest}

pub returns : goal.returns
returns c = newest_fit_is_newest
