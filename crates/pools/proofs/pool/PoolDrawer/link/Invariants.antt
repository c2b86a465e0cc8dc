use Rattle.std.proofs.Common.{◌≤◌, vec_items}
use Rattle.pools.specs.Chains.{Led}
use Rattle.pools.proofs.pool.PoolDrawer.link.Given as goal

abbrev pub invariant-loop-at : goal.invariant-loop-at
invariant-loop-at l = (l.version.0 ≤ l.at.number) × Led (vec_items l.self.chains) l.self.used l.fn.card.0 l.at

abbrev pub decreases-loop-at : goal.decreases-loop-at
decreases-loop-at l = l.at.number
