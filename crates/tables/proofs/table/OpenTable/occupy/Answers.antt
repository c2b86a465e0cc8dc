use Rattle.std.proofs.Common.{Some, set, vec_items, sym, ap, ◌∙◌, arith}
use Rattle.transactions.specs.State.{most_drafts}
use Rattle.tables.specs.Tables.{list_of, table_of, with_list}
use Rattle.tables.proofs.Changes.{stands_new, same_rows, list_changed}
use Rattle.tables.proofs.Standing.{length_list, set_past}
use Rattle.tables.proofs.table.OpenTable.occupy.Goals as goal

pub returns-then-place-self : goal.returns-then-place-self
returns-then-place-self c =
    let t = c.args.self.now in
    let p = c.args.place in
    ap (with_list (table_of t))
    (list_changed t p c.if-place-self.true (Some (record { number = c.args.number; reads = 0; drafts = 0 })) (vec_items t.reads.items) (vec_items t.drafts.items)
    (same_rows t.reads.width p (vec_items t.reads.items)) (same_rows most_drafts p (vec_items t.drafts.items))
    ∙ ap (set (list_of t) p) (stands_new t.reads.width (vec_items t.reads.items) (vec_items t.drafts.items) p c.args.number))

pub returns-else-place-self : goal.returns-else-place-self
returns-else-place-self c =
    let t = c.args.self.now in
    ap (with_list (table_of t)) (sym (set_past (list_of t) c.args.place _ (omega (arith, c.if-place-self.false, length_list t))))
