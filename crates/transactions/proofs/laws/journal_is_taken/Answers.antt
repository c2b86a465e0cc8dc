use Rattle.transactions.proofs.laws.journal_is_taken.Goals as goal
use Rattle.transactions.proofs.Theorems.{journal_is_taken}

pub returns : goal.returns
returns c = journal_is_taken
