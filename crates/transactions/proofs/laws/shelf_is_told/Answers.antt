use Rattle.transactions.proofs.laws.shelf_is_told.Goals as goal
use Rattle.transactions.proofs.Theorems.{shelf_is_told}

pub returns : goal.returns
returns c = shelf_is_told
