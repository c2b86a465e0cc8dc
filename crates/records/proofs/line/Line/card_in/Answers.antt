use Rattle.records.proofs.Fields.{glanced, card_fits}
use Rattle.records.proofs.line.Line.card_in.Goals as goal

pub returns-clause-fit : goal.returns-clause-fit
returns-clause-fit c = λ l e. card_fits l (glanced c.args.bytes.now l e).good
