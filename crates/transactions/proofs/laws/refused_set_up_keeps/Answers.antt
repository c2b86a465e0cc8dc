use Rattle.transactions.proofs.laws.refused_set_up_keeps.Goals as goal
use Rattle.transactions.proofs.Theorems.{refused_set_up_keeps}

pub returns : goal.returns
returns c = refused_set_up_keeps
