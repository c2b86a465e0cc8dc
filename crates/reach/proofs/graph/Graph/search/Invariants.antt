use Rattle.std.proofs.Common.{ℕ, ◌-◌, ◌<◌, ◌≤◌, length, get_or}
use Rattle.reach.specs.Links.{places}
use Rattle.reach.specs.Paths.{edges}
use Rattle.reach.specs.Searches.{waiting, Search, Closed}
use Rattle.reach.proofs.graph.Graph.search.Given as goal

-- the start and the first nodes of the queue are done with
abbrev pub invariant-loop-next : goal.invariant-loop-next
invariant-loop-next l =
    Search (edges l.self) l.from l.marks (waiting l.queue)
    × Closed (edges l.self) l.marks l.from
    × ((i : ℕ) → i < l.next → Closed (edges l.self) l.marks (get_or (waiting l.queue) i 0))
    × (l.next ≤ length (waiting l.queue))

abbrev pub decreases-loop-next : goal.decreases-loop-next
decreases-loop-next l = places - l.next
