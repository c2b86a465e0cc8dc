use Rattle.transactions.proofs.laws.journal_is_history.Goals as goal
use Rattle.transactions.proofs.Theorems.{journal_is_history}

pub returns : goal.returns
returns c = journal_is_history
