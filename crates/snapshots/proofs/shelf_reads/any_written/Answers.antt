use Rattle.std.proofs.Common.{ltb, ap, refl, ◌∙◌, arith, rules}
use Rattle.std.proofs.lemmas.Iterator.{YieldsList-from_range}
use Rattle.std.proofs.lemmas.Iterator.Search.{any_from_yields_List}
use Rattle.shelf.specs.Meaning.{newest}
use Rattle.transactions.specs.Calls.{any_written}
use Rattle.snapshots.proofs.ShelfReads.{any_written_is}
use Rattle.snapshots.proofs.shelf_reads.any_written.Goals as goal

pub returns : goal.returns
returns g c =
    let m = g.S.Shelf.meaning c.args.shelf.now in
    any_from_yields_List (λ x. ltb 0 (newest m x)) _ _ _ c.any.ensures.ran (YieldsList-from_range 0 c.cards.result c.cards.result refl (omega arith))
    (λ x b q k. search rules)
    ∙ any_written_is m c.cards.result ∙ ap (any_written m) c.cards.ensures
