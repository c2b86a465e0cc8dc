use Rattle.std.proofs.Common.{◌≤◌, ltb, vec_items, sym, subst, arith}
use Rattle.std.proofs.lemmas.Bool.{cond_both, ltb-false}
use Rattle.pools.specs.Chains.{Led}
use Rattle.pools.specs.declared.chain.Link.{Link}
use Rattle.pools.specs.PoolFacts.{back, newest_there, link_read}
use Rattle.pools.proofs.pool.PoolDrawer.link.Goals as goal

pub loop-at-init : goal.loop-at-init
loop-at-init c =
    let s = c.args.self.now in
    let d = c.args.card.0 in
    let x = c.index-at.result.now in
    let is = link_read s d c.requires.listed x c.index-at.ensures in
    let k = c.args.version.0 in
    let P = λ (l : Link). (k ≤ l.number) × Led (vec_items s.chains) s.used d l in
    subst P (sym is) (c.requires.there, (newest_there s d c.requires.listed).led (omega (arith, c.requires.above, c.requires.there)))

pub loop-at-preserved : goal.loop-at-preserved
loop-at-preserved c =
    let s = c.args.self.now in
    let k = c.args.version.0 in
    let d = c.args.card.0 in
    let x = c.index.result.now in
    let b = back s d c.loop-at.at x c.loop-at.invariant.1 c.index.ensures in
    let P = λ (l : Link). (k ≤ l.number) × Led (vec_items s.chains) s.used d l in
    subst P (sym c.toward-at.ensures)
    (cond_both (ltb x.jump.number k) x.older x.jump P
    (λ _. (omega (arith, b.older_told, c.loop-at-test.true), b.older (omega (arith, b.older_told, c.loop-at-test.true, c.requires.above))))
    (λ near. let h = ltb-false x.jump.number k near in (h, b.jump (omega (arith, h, c.requires.above)))))
