use Rattle.std.proofs.Common.{rules}
use Rattle.transactions.proofs.Promised.{close_promised}
use Rattle.catalogue.proofs.calls.Catalogue.close.Goals as goal

pub returns-clause-law : goal.returns-clause-law
returns-clause-law c = λ m. close_promised m _ _ (search rules)
