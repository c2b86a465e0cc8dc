use Rattle.std.proofs.Common.{◌∙◌, rules}
use Rattle.std.proofs.lemmas.Iterator.{YieldsList-from_slice}
use Rattle.std.proofs.lemmas.Iterator.Consumers.{YieldsList-at, YieldsList-from_filter, count_from_yields_List}
use Rattle.committing.proofs.ShelfWrites.{drawer_is}
use Rattle.committing.proofs.shelf_writes.drafts_in_drawer.Goals as goal

pub returns : goal.returns
returns g c =
    let m = g.S.Shelf.meaning c.args.shelf.now in
    let es = c.args.drafts.now in
    count_from_yields_List c.filter.result c.count.result c.count.ensures.ran
    (YieldsList-from_filter _ (λ e. m.shares c.args.card.0 e.card.0) (YieldsList-at c.filter.ensures.source (YieldsList-from_slice es (cc))) c.filter.ensures.closure
    (λ x r q k. search rules))
    ∙ drawer_is m c.args.card.0 es
