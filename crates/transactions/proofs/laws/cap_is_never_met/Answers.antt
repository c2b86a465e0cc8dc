use Rattle.transactions.proofs.laws.cap_is_never_met.Goals as goal
use Rattle.transactions.proofs.Theorems.{cap_is_never_met}

pub returns : goal.returns
returns c = cap_is_never_met
