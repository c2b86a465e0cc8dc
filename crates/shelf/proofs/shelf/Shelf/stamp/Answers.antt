use Rattle.std.proofs.Common.{◌≡◌, refl, ◌∙◌, subst, add-one, length-set, arith}
use Rattle.shelf.specs.Meaning.{version_at}
use Rattle.shelf.proofs.Gathering.{Gathered, gathered_none, gathered_more, gathered_all}
use Rattle.shelf.proofs.shelf.Shelf.stamp.Goals as goal

pub loop-of-init : goal.loop-of-init
loop-of-init g c = (refl, gathered_none (version_at (g.Self.Shelf.meaning c.args.self.now) c.args.card.0 c.args.version.0))

pub loop-of-preserved : goal.loop-of-preserved
loop-of-preserved g c =
    let o = version_at (g.Self.Shelf.meaning c.args.self.now) c.args.card.0 c.args.version.0 in
    let (long, h) = c.loop-of.invariant in
    rw add-one ((length-set c.loop-of.counts c.loop-of.of c.from.result ∙ long, rw c.from.ensures (gathered_more o c.loop-of.counts c.loop-of.of c.in_ok-entry.field-0 (omega (arith, long, c.loop-of-test.true)) h c.in_ok-entry.ensures)))

pub returns : goal.returns
returns g c =
    let m = g.Self.Shelf.meaning c.args.self.now in
    let (long, h) = c.loop-of.invariant in
    let all : c.loop-of.of ≡ 256 = omega (arith, c.loop-of-test.false, c.loop-of.auto.of-end) in
    c.from_counts.ensures ∙ gathered_all m (g.met.Self.Shelf.sound c.args.self.now) c.args.card.0 c.args.version.0 c.loop-of.counts long (subst (Gathered (version_at m c.args.card.0 c.args.version.0) c.loop-of.counts) all h)
