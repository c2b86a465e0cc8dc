use Rattle.std.proofs.Common.{Some, take, vec_items, ap, ◌∙◌, arith}
use Rattle.transactions.specs.State.{last_at}
use Rattle.tables.proofs.Places.{has_number, found_place}
use Rattle.tables.proofs.table.OpenTable.find.Goals as goal

pub returns : goal.returns
returns c =
    let t = c.args.self.now in
    c.last_with.ensures ∙ ap (last_at (has_number (Some _))) c.in_use.ensures
    ∙ found_place c.args.number.0 _ t.reads.width (vec_items t.reads.items) (vec_items t.drafts.items) (take t.used (vec_items t.places)) (omega arith)
