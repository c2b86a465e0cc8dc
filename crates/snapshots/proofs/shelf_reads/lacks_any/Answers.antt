use Rattle.std.proofs.Common.{not, is_some, ◌∙◌, rules}
use Rattle.std.proofs.lemmas.Iterator.{YieldsList-from_slice}
use Rattle.std.proofs.lemmas.Iterator.Search.{any_from_yields_List}
use Rattle.shelf.specs.Questions.{writer_of}
use Rattle.snapshots.proofs.ShelfReads.{lacks_is}
use Rattle.snapshots.proofs.shelf_reads.lacks_any.Goals as goal

pub returns : goal.returns
returns g c =
    let m = g.S.Shelf.meaning c.args.shelf.now in
    let es = c.args.reads.now in
    any_from_yields_List (λ e. not (is_some (writer_of m e.card.0 e.version.0))) _ _ _ c.any.ensures.ran (YieldsList-from_slice es (cc)) (λ x b q k. search rules)
    ∙ lacks_is m es
