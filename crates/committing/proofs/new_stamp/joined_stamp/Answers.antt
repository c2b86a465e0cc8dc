use Rattle.std.proofs.Common.{get_or, ap, ◌∙◌, arith, rules}
use Rattle.stamps.specs.Counts.{joined}
use Rattle.stamps.specs.Entries.{entries}
use Rattle.transactions.specs.Choosing.{stamps_of}
use Rattle.entries.specs.declared.entries.ReadEntry.{ReadEntry}
use Rattle.committing.proofs.Stamps.{join_more, join_end}
use Rattle.committing.proofs.new_stamp.joined_stamp.Goals as goal

abbrev none : ReadEntry
none = record { card = record { 0 = 0 }; version = record { 0 = 0 } }

pub loop-read-init : goal.loop-read-init
loop-read-init g c = λ y. omega (arith, ap (λ f. f y) c.zero-stamp.ensures)

pub loop-read-preserved : goal.loop-read-preserved
loop-read-preserved g c =
    let m = g.S.Shelf.meaning c.args.shelf.now in
    let es = c.args.reads.now in
    let i = c.loop-read.read-index in
    let old = entries c.loop-read.stamp in
    join_more m es i none c.loop-read-test.true old (entries c.join_read.new.stamp)
    (c.join_read.ensures ∙ ap (λ k. joined old (stamps_of m (get_or es i none).card.0 k)) (search rules)) c.loop-read.invariant

pub returns : goal.returns
returns g c =
    join_end (g.S.Shelf.meaning c.args.shelf.now) c.args.reads.now c.loop-read.read-index (entries c.loop-read.stamp) c.loop-read-test.false c.loop-read.invariant
