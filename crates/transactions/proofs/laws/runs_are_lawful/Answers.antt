use Rattle.transactions.proofs.laws.runs_are_lawful.Goals as goal
use Rattle.transactions.proofs.Theorems.{runs_are_lawful}

pub returns : goal.returns
returns c = runs_are_lawful
