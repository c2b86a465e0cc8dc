use Rattle.std.proofs.Common.{sym, ap, ◌∙◌}
use Rattle.pools.specs.PoolMeaning.{pool_meaning}
use Rattle.pools.specs.PoolFacts.{pool_newest, link_read}
use Rattle.pools.proofs.pool.answers.PoolDrawerDrawers.newest.Goals as goal

pub returns : goal.returns
unfolding pool_meaning
returns c =
    let s = c.args.self.now in
    let d = c.args.card.0 in
    ap (λ l. l.number) (link_read s d c.requires c.index.result.now c.index.ensures) ∙ sym (pool_newest s d c.requires)
