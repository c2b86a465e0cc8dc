use Rattle.std.proofs.Common.{map, Some, sym, ap, ◌∙◌, arith, rules}
use Rattle.transactions.specs.Choosing.{newest_fit}
use Rattle.entries.specs.declared.entries.ReadEntry.{ReadEntry}
use Rattle.entries.specs.Contents.{reading}
use Rattle.snapshots.proofs.ShelfReads.{fits_passed, fits_failed, fits_end, fit_here, fit_below, fit_none}
use Rattle.snapshots.proofs.shelf_reads.newest_that_fits.Goals as goal

abbrev none : ReadEntry
none = record { card = record { 0 = 0 }; version = record { 0 = 0 } }

pub versions-preserved : goal.versions-preserved
versions-preserved g c =
    let m = g.S.Shelf.meaning c.args.shelf.now in
    let es = c.args.reads.now in
    let x = c.args.card.0 in
    let n = c.loop-entry.n in
    let fails = fits_failed m es c.loop-entry.entry-index none c.loop-entry-test.true x n c.fits_entry.result c.fits_entry.ensures
    c.loop-entry.invariant.1 c.if-not-fits_entry.true in
    sym (fit_below m (map reading es) x n c.if-n-eq0.false fails) ∙ ap (newest_fit m (map reading es) x) c.loop-entry.invariant.0 ∙ c.versions.invariant

pub versions-smaller : goal.versions-smaller
versions-smaller g c = omega (arith, c.loop-entry.invariant.0, c.if-n-eq0.false)

pub loop-entry-preserved : goal.loop-entry-preserved
loop-entry-preserved g c = (
  c.loop-entry.invariant.0,
  fits_passed (g.S.Shelf.meaning c.args.shelf.now) c.args.reads.now c.loop-entry.entry-index none c.loop-entry-test.true c.args.card.0
      c.loop-entry.n c.fits_entry.result c.fits_entry.ensures c.loop-entry.invariant.1 c.if-not-fits_entry.false,
)

pub returns-then-n-eq0 : goal.returns-then-n-eq0
returns-then-n-eq0 g c =
    let m = g.S.Shelf.meaning c.args.shelf.now in
    let es = c.args.reads.now in
    let x = c.args.card.0 in
    let n = c.loop-entry.n in
    let fails = fits_failed m es c.loop-entry.entry-index none c.loop-entry-test.true x n c.fits_entry.result c.fits_entry.ensures
    c.loop-entry.invariant.1 c.if-not-fits_entry.true in
    sym (fit_none m (map reading es) x n c.if-n-eq0.true fails) ∙ ap (newest_fit m (map reading es) x) c.loop-entry.invariant.0 ∙ c.versions.invariant

pub returns-after-loop-entry : goal.returns-after-loop-entry
returns-after-loop-entry g c =
    let m = g.S.Shelf.meaning c.args.shelf.now in
    let es = c.args.reads.now in
    let x = c.args.card.0 in
    let n = c.loop-entry.n in
    let fits = fits_end m x n es c.loop-entry.entry-index c.loop-entry-test.false c.loop-entry.invariant.1 in
    ap Some (search rules) ∙ sym (fit_here m (map reading es) x n fits) ∙ ap (newest_fit m (map reading es) x) c.loop-entry.invariant.0 ∙ c.versions.invariant
