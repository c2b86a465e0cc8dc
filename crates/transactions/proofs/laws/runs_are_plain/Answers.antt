use Rattle.transactions.proofs.laws.runs_are_plain.Goals as goal
use Rattle.transactions.proofs.Theorems.{runs_are_plain}

pub returns : goal.returns
returns c = runs_are_plain
