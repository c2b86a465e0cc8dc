use Rattle.std.proofs.Common.{◌≡◌, ℕ, ◌<◌, ◌≤◌, length, get_or}
use Rattle.reach.specs.Paths.{Marked}
use Rattle.reach.specs.Searches.{waiting}
use Rattle.reach.proofs.queue.Queue.clear.Given as goal

-- what is still marked waits behind the nodes that were gone through
abbrev pub invariant-loop-node : goal.invariant-loop-node
invariant-loop-node l =
    (b : ℕ) → Marked l.marks b → (k : ℕ) × (l.node-index ≤ k) × (k < length (waiting l.fn.self)) × (get_or (waiting l.fn.self) k 0 ≡ b)
