use Rattle.std.proofs.Common.{◌<◌, length, get_or, vec_items, sym, ap, ◌∙◌, ltb-true, ltb-false, arith}
use Rattle.std.proofs.lemmas.List.{get_or-take}
use Rattle.tables.proofs.Standing.{entry_read, taken_told, past_untaken, in_use_many}
use Rattle.tables.proofs.table.OpenTable.taken.Goals as goal

pub returns-in_err-get : goal.returns-in_err-get
returns-in_err-get c =
    let t = c.args.self.now in
    let many = ap length c.in_use.ensures ∙ in_use_many t in
    let high = ltb-false c.args.place (length c.in_use.result.now) (sym c.in_err-get.ensures.lookup.0) in
    rw c.from_residual.ensures (past_untaken t c.args.place (omega (arith, high, many)))

pub returns : goal.returns
returns c =
    let t = c.args.self.now in
    let many = ap length c.in_use.ensures ∙ in_use_many t in
    let low = ltb-true c.args.place (length c.in_use.result.now) (sym c.in_ok-get.ensures.lookup.0) in
    let h : c.args.place < t.used = omega (arith, low, many) in
    let x = c.in_ok-get.field-0.now in
    taken_told t c.args.place x h
    (entry_read t c.args.place h x
    (c.in_ok-get.ensures.lookup.1 ∙ ap (λ l. get_or l c.args.place x) c.in_use.ensures ∙ get_or-take t.used (vec_items t.places) c.args.place x h))
