-- What holds in the midst of a search. Assumes nothing.
--     waiting q                   the nodes of a queue, in the order of marking
--     unmarked ms n               how many of the nodes below n are not marked
--     Room ms q                   every node that is not marked could still be put into the queue
--     Closed es ms a              every edge from a leads to a marked node, or past the marks
--     Waits q b                   node b is in the queue, which is seen as the list of its nodes
--     Clear ms                    no node is marked
--     Listed ms q                 every marked node is in the queue
--     Bits ms                     no mark is above 1
--     Found P ms ms' q q'         from marks ms to ms' only nodes with P were marked, each put into the queue behind those that were there
--     Is n                        being node n
--     Search es a ms q            marked are the nodes of the queue, a path leads to each, and there is room for the others
use Rattle.std.specs.Prelude.{◌≡◌, ℕ, zero, suc, ◌+◌, ◌<◌, ◌≤◌, cond, ◌⊎◌, List, length, take, ◌==◌, slice_index}
use Rattle.reach.specs.Links.{places}
use Rattle.reach.specs.Paths.{Edge, Path, Marked}
use Rattle.reach.specs.declared.queue.Queue.{Queue}

abbrev pub waiting : Queue → List ℕ
waiting q = take q.count q.nodes

unfoldable pub unmarked : List ℕ → ℕ → ℕ
unmarked ms zero = 0
unmarked ms (suc n) = cond (slice_index ms n == 0) 1 0 + unmarked ms n

abbrev pub Room : List ℕ → List ℕ → Type 0
Room ms q = length q + unmarked ms places ≤ places

abbrev pub Closed : List (ℕ × ℕ) → List ℕ → ℕ → Type 0
Closed es ms a = (b : ℕ) → Edge es a b → b < length ms → Marked ms b

abbrev pub Waits : List ℕ → ℕ → Type 0
Waits q b = (i : ℕ) × (i < length q) × (slice_index q i ≡ b)

abbrev pub Clear : List ℕ → Type 0
Clear ms = (b : ℕ) → Marked ms b → ⊥

abbrev pub Listed : List ℕ → List ℕ → Type 0
Listed ms q = (b : ℕ) → Marked ms b → Waits q b

abbrev pub Bits : List ℕ → Type 0
Bits ms = (b : ℕ) → slice_index ms b ≤ 1

abbrev pub Is : ℕ → ℕ → Type 0
Is n b = b ≡ n

pub record Found (P : ℕ → Type 0) (ms ms' q q' : List ℕ) : Type 0 where
  pub room : Room ms' q'
  pub long : length ms' ≡ length ms
  pub marks : (b : ℕ) → Marked ms b → Marked ms' b
  pub longer : length q ≤ length q'
  pub nodes : (i : ℕ) → i < length q → slice_index q' i ≡ slice_index q i
  pub only : (b : ℕ) → Marked ms' b → Marked ms b ⊎ (P b × (b < length ms) × Waits q' b)
  pub fresh : (i : ℕ) → length q ≤ i → i < length q' → Marked ms' (slice_index q' i)
  pub bits : Bits ms → Bits ms'

pub record Search (es : List (ℕ × ℕ)) (a : ℕ) (ms q : List ℕ) : Type 0 where
  pub room : Room ms q
  pub sound : (b : ℕ) → Marked ms b → Path es (length ms) a b
  pub waits : (b : ℕ) → Marked ms b → Waits q b
  pub marked : (i : ℕ) → i < length q → Marked ms (slice_index q i)
  pub bits : Bits ms
