use Rattle.std.proofs.Common.{◌≡◌, ◌<◌, length}
use Rattle.reach.specs.Links.{from, to, leaves, picks, bound}
use Rattle.reach.specs.Paths.{edges, Edge, Marked}
use Rattle.reach.specs.Searches.{waiting, Found}
use Rattle.reach.proofs.PickLaws.{Passed}
use Rattle.reach.proofs.graph.Graph.expand.Given as goal

-- no edge from the node that was passed leads to a node with a clear mark
abbrev pub invariant-loop-place : goal.invariant-loop-place
invariant-loop-place l =
    (goal.iterator-loop-place).can_next l.place-iterator × (goal.iterator-loop-place).is_finite l.place-iterator
    × Found (Edge (edges l.self) l.node) l.initial.marks l.marks (waiting l.initial.queue) (waiting l.queue)
    × Passed (leaves (edges l.self) l.node) (λ i. (from (edges l.self) i ≡ l.node) × (to (edges l.self) i < length l.marks) × (Marked l.marks (to (edges l.self) i) → ⊥))
    (length (edges l.self)) (picks (leaves (edges l.place-iterator.walk.now) l.place-iterator.node) (bound (length (edges l.place-iterator.walk.now)) l.place-iterator.position))
