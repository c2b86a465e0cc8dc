-- Paths in a graph, and what a search leaves in the marks. Assumes nothing.
--     edges g                     a graph's edges, in the order in which they were added
--     taken g a b                 whether the graph takes one more edge, from a to b
--     Edge es a b                 an edge leads from a to b
--     Path es n a b               one or more edges lead from a to b, by nodes below n alone
--     Marked ms b                 node b is marked
--     Reached es a ms             marked are exactly the nodes to which a path from a leads
--     has_edge es a b             whether an edge leads from a to b
--     leads es k a b              whether a path leads from a to b, with nodes below k alone in between
--     marks_from es a n           the marks of n nodes: 1 where a path from a leads, by nodes that have a mark, and 0 elsewhere
use Rattle.std.specs.Prelude.{◌≡◌, ℕ, zero, suc, ◌<◌, Bool, false, cond, ◌&&◌, ◌||◌, List, [], ◌∷◌, map, length, nat_lt, ◌==◌, slice_index}
use Rattle.std.specs.List.{range_with_len}
use Rattle.reach.specs.Links.{places, from, to, table}
use Rattle.reach.specs.declared.graph.Graph.{Graph}

abbrev pub edges : Graph → List (ℕ × ℕ)
edges g = table g.edges.items

abbrev pub taken : Graph → ℕ → ℕ → Bool
taken g a b = nat_lt (length (edges g)) places && nat_lt a places && nat_lt b places

pub record Edge (es : List (ℕ × ℕ)) (a b : ℕ) : Type 0 where
  pub place : ℕ
  pub inside : place < length es
  pub leaves : from es place ≡ a
  pub leads : to es place ≡ b

pub data Path (es : List (ℕ × ℕ)) (n : ℕ) : ℕ → ℕ → Type 0 where
  one : {a b : ℕ} → Edge es a b → b < n → Path es n a b
  more : {a b c : ℕ} → Edge es a b → b < n → Path es n b c → Path es n a c

abbrev pub Marked : List ℕ → ℕ → Type 0
Marked ms b = 0 < slice_index ms b

pub record Reached (es : List (ℕ × ℕ)) (a : ℕ) (ms : List ℕ) : Type 0 where
  pub sound : (b : ℕ) → Marked ms b → Path es (length ms) a b
  pub complete : (b : ℕ) → Path es (length ms) a b → Marked ms b

abbrev pub has_edge : List (ℕ × ℕ) → ℕ → ℕ → Bool
has_edge [] a b = false
has_edge (e ∷ es) a b = e.0 == a && e.1 == b || has_edge es a b

-- such a path passes k or does not
unfoldable pub leads : List (ℕ × ℕ) → ℕ → ℕ → ℕ → Bool
leads es zero a b = has_edge es a b
leads es (suc k) a b = leads es k a b || leads es k a k && leads es k k b

abbrev pub marks_from : List (ℕ × ℕ) → ℕ → ℕ → List ℕ
marks_from es a n = map (λ b. cond (leads es n a b) 1 0) (range_with_len 0 n)
