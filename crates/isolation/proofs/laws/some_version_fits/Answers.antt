use Rattle.isolation.proofs.laws.some_version_fits.Goals as goal
use Rattle.isolation.proofs.Theorems.{some_version_fits}

pub returns : goal.returns
returns c = some_version_fits
