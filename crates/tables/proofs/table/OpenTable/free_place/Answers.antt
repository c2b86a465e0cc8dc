use Rattle.std.proofs.Common.{◌≡◌, None, take, vec_items, ap, ◌∙◌, rules}
use Rattle.transactions.specs.State.{last_at}
use Rattle.tables.proofs.Places.{has_number, free_found}
use Rattle.tables.proofs.table.OpenTable.free_place.Goals as goal

pub returns : goal.returns
returns c =
    let t = c.args.self.now in
    let told = c.last_with.ensures ∙ ap (last_at (has_number None)) c.in_use.ensures in
    free_found t.reads.width (vec_items t.reads.items) (vec_items t.drafts.items) (take t.used (vec_items t.places)) _ (search (rules, told))
