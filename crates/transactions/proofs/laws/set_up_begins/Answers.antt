use Rattle.transactions.proofs.laws.set_up_begins.Goals as goal
use Rattle.transactions.proofs.Theorems.{set_up_begins}

pub returns : goal.returns
returns c = set_up_begins
