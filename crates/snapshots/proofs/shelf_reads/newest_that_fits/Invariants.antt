use Rattle.std.proofs.Common.{◌≡◌, map, drop}
use Rattle.shelf.specs.Meaning.{newest}
use Rattle.transactions.specs.Choosing.{fits_all, newest_fit}
use Rattle.entries.specs.Contents.{reading}
use Rattle.snapshots.proofs.shelf_reads.newest_that_fits.Given as goal

abbrev pub invariant-versions : goal.invariant-versions
invariant-versions g l =
    newest_fit (g.S.Shelf.meaning l.shelf) (map reading l.reads) l.card.0 l.n
    ≡ newest_fit (g.S.Shelf.meaning l.shelf) (map reading l.reads) l.card.0 (newest (g.S.Shelf.meaning l.shelf) l.card.0)

abbrev pub decreases-versions : goal.decreases-versions
decreases-versions g l = l.n

abbrev pub invariant-loop-entry : goal.invariant-loop-entry
invariant-loop-entry g l =
    (l.n ≡ l.initial.n)
    × (fits_all (g.S.Shelf.meaning l.shelf) l.card.0 l.n (map reading (drop l.entry-index l.reads))
    ≡ fits_all (g.S.Shelf.meaning l.shelf) l.card.0 l.n (map reading l.reads))
