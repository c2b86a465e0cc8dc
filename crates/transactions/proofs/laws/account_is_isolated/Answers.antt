use Rattle.transactions.proofs.laws.account_is_isolated.Goals as goal
use Rattle.transactions.proofs.Theorems.{account_is_isolated}

pub returns : goal.returns
returns c = account_is_isolated
