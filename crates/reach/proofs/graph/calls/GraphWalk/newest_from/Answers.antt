use Rattle.std.proofs.Common.{length, sym, arith}
use Rattle.reach.specs.Paths.{edges}
use Rattle.reach.proofs.LinkLaws.{link_none}
use Rattle.reach.proofs.graph.calls.GraphWalk.newest_from.Goals as goal

pub returns-then-node-ge-PLACES : goal.returns-then-node-ge-PLACES
returns-then-node-ge-PLACES c =
    let g = c.args.self.now in
    sym (link_none (edges g) c.args.node (length (edges g)) (λ i lt e. omega (arith, (g.within i lt).0)))
