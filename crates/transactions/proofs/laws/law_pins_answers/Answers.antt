use Rattle.transactions.proofs.laws.law_pins_answers.Goals as goal
use Rattle.transactions.proofs.Theorems.{law_pins_answers}

pub returns : goal.returns
returns c = law_pins_answers
