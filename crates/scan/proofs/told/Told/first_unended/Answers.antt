use Rattle.std.proofs.Common.{true, false, rules, tests}
use Rattle.std.proofs.lemmas.Iterator.{first_from_Range}
use Rattle.scan.proofs.Tested.{HasEnd, first_open}
use Rattle.scan.proofs.told.Told.first_unended.Goals as goal

pub returns : goal.returns
returns c =
    let s = c.args.self.now in
    let found = first_from_Range _ _ _ c.find.result (HasEnd s.file.now s.count false) (HasEnd s.file.now s.count true) c.find.ensures.ran (λ x q k. λ l e. search (rules, tests)) (λ x q k. (search (rules, tests), λ l e. search (rules, tests))) in
    first_open s.file.now s.count c.find.result s.good found
