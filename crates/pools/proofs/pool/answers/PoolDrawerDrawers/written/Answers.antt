use Rattle.std.proofs.Common.{◌≡◌, Some, subst, arith}
use Rattle.shelf.specs.Meaning.{version_at}
use Rattle.drawers.specs.Places.{version_of}
use Rattle.pools.specs.PoolMeaning.{pool_meaning}
use Rattle.pools.specs.PoolFacts.{pool_newest, pool_version}
use Rattle.pools.proofs.pool.answers.PoolDrawerDrawers.written.Goals as goal

pub link-place-requires-clause-there : goal.link-place-requires-clause-there
unfolding pool_meaning
link-place-requires-clause-there c = omega (arith, pool_newest c.args.self.now c.args.card.0 c.requires.listed, c.requires.there)

pub returns : goal.returns
unfolding pool_meaning
returns c =
    let s = c.args.self.now in
    let d = c.args.card.0 in
    let found = c.link-place.ensures in
    subst (λ k. version_at (pool_meaning s) d k ≡ Some (version_of s.size.width c.index.result.now)) found.told
    (pool_version s d c.requires.listed c.link-place.result c.index.result.now found.led c.index.ensures)
