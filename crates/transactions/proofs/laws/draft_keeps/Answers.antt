use Rattle.transactions.proofs.laws.draft_keeps.Goals as goal
use Rattle.transactions.proofs.Theorems.{draft_keeps}

pub returns : goal.returns
returns c = draft_keeps
