use Rattle.std.proofs.Common.{vec_items, ◌∙◌}
use Rattle.drawers.specs.Places.{version_in}
use Rattle.pools.specs.Chains.{owner}
use Rattle.pools.specs.Pools.{pool_of}
use Rattle.pools.specs.PoolMeaning.{pool_meaning}
use Rattle.pools.specs.PoolsLemmas.{pool_empty, pool_fresh}
use Rattle.pools.proofs.pool.PoolDrawer.opened.Goals as goal

pub returns : goal.returns
unfolding pool_meaning
returns c =
    let size = c.args.size in
    let own = owner (vec_items c.args.memory.chains) in
    let at = version_in c.args.memory.places size.width in
    record {
      free = pool_fresh size.cards size.width size.places own at;
      none = λ few narrow. (λ z. pool_of (few z) (narrow z) size.places 0 own at) ∙ pool_empty size.places own at;
    }
