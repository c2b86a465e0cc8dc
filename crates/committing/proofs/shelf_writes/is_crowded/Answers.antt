use Rattle.std.proofs.Common.{ltb, map, ◌∙◌, rules}
use Rattle.std.proofs.lemmas.Iterator.{YieldsList-from_slice}
use Rattle.std.proofs.lemmas.Iterator.Search.{any_from_yields_List}
use Rattle.transactions.specs.Committing.{in_drawer}
use Rattle.entries.specs.Contents.{drafting}
use Rattle.committing.proofs.ShelfWrites.{crowd_is}
use Rattle.committing.proofs.shelf_writes.is_crowded.Goals as goal

pub returns : goal.returns
returns g c =
    let m = g.S.Shelf.meaning c.args.shelf.now in
    let es = c.args.drafts.now in
    any_from_yields_List (λ e. ltb (m.free e.card.0) (in_drawer m e.card.0 (map drafting es))) _ _ _ c.any.ensures.ran (YieldsList-from_slice es (cc))
    (λ x b q k. search rules)
    ∙ crowd_is m (map drafting es) es
