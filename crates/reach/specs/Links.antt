-- How the edges of a graph are linked. Assumes nothing.
--     places                      how many nodes a graph has, and how many edges it takes
--     from es k, to es k          where edge k goes from, and where it leads to
--     picks p n                   the numbers below n with the test p, from the greatest on
--     behind p r                  the number r, if there is one, and those below it with the test p, from the greatest on
--     bound n w                   below which number a walk over the numbers below n goes on that stands at w: n before the newest, k behind k
--     first xs                    the first of the list, if there is one
--     leaves es n k               edge k goes from node n
--     link es n k                 the place of the last of the first k edges that goes from n, if there is one
--     table es, olders es         the ends of each edge, and the link to the next older edge
--     Within es                   the edges are between nodes of the graph
--     NewestLinked, OlderLinked the links to the newest and to the next older edges are right
use Rattle.std.specs.Prelude.{◌≡◌, ℕ, zero, suc, ◌<◌, Bool, cond, List, [], ◌∷◌, map, length, Option, Some, None, ◌==◌, slice_index_or}
use Rattle.reach.specs.declared.graph.LinkedEdge.{LinkedEdge}
use Rattle.reach.specs.declared.walk.Position.{Position}
use Rattle.reach.specs.declared.walk.Position.TheVariants.{Newest, Behind}

abbrev pub places : ℕ
places = 2048

abbrev pub from : List (ℕ × ℕ) → ℕ → ℕ
from es k = (slice_index_or es k (0, 0)).0

abbrev pub to : List (ℕ × ℕ) → ℕ → ℕ
to es k = (slice_index_or es k (0, 0)).1

unfoldable pub picks : (ℕ → Bool) → ℕ → List ℕ
picks p zero = []
picks p (suc n) = cond (p n) (n ∷ picks p n) (picks p n)

abbrev pub behind : (ℕ → Bool) → Option ℕ → List ℕ
behind p None = []
behind p (Some k) = k ∷ picks p k

abbrev pub bound : ℕ → Position → ℕ
bound n Newest = n
bound n (Behind k) = k

abbrev pub first : List ℕ → Option ℕ
first [] = None
first (x ∷ xs) = Some x

abbrev pub leaves : List (ℕ × ℕ) → ℕ → ℕ → Bool
leaves es n k = from es k == n

abbrev pub link : List (ℕ × ℕ) → ℕ → ℕ → Option ℕ
link es n k = first (picks (leaves es n) k)

abbrev pub table : List LinkedEdge → List (ℕ × ℕ)
table es = map (λ (e : LinkedEdge). (e.from, e.to)) es

abbrev pub olders : List LinkedEdge → List (Option ℕ)
olders es = map (λ (e : LinkedEdge). e.older) es

abbrev pub Within : List (ℕ × ℕ) → Type 0
Within es = (k : ℕ) → k < length es → (from es k < places) × (to es k < places)

abbrev pub NewestLinked : List (ℕ × ℕ) → List (Option ℕ) → Type 0
NewestLinked es newest = (n : ℕ) → n < places → slice_index_or newest n None ≡ link es n (length es)

abbrev pub OlderLinked : List (ℕ × ℕ) → List (Option ℕ) → Type 0
OlderLinked es older = (k : ℕ) → k < length es → slice_index_or older k None ≡ link es (from es k) k
