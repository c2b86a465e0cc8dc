use Rattle.transactions.proofs.laws.stamps_are_vectors.Goals as goal
use Rattle.transactions.proofs.Theorems.{stamps_are_vectors}

pub returns : goal.returns
returns c = stamps_are_vectors
