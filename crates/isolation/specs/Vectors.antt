-- Dependence vectors: a count for each card, told by equations over the account. Assumes nothing.
--     Stamps                      a number for each card, version and entry; an entry is a card too
--     greatest s rs y             the greatest of the entries at y of the versions rs
--     Vectors a s                 s satisfies the equations: version 0 has zeros; a version written by t has, entry by entry,
--                                 the greatest of the vectors of t's reads, plus 1 at each card that t writes
--     Alike a s s'                s and s' agree on every version there is
-- Only entries at listed cards count: what stands at others is free.
use Rattle.std.specs.Prelude.{◌≡◌, ℕ, suc, ◌<◌, ◌≤◌, max, List, [], ◌∷◌}
use Rattle.isolation.specs.Account.{Account, Reading}
use Rattle.isolation.specs.AccountHistory.{Writes, WritesCard}

abbrev pub Stamps : Type 0
Stamps = (card version entry : ℕ) → ℕ

abbrev pub greatest : Stamps → List Reading → (y : ℕ) → ℕ
greatest s [] y = 0
greatest s (r ∷ rs) y = max (s r.card r.version y) (greatest s rs y)

pub record Vectors (a : Account) (s : Stamps) : Type 0 where
  pub first : (x y : ℕ) → x < a.listed → y < a.listed → s x 0 y ≡ 0
  pub writing : (t x k y : ℕ) → Writes a t x k → y < a.listed → WritesCard a t y → s x k y ≡ suc (greatest s (a.reads t) y)
  pub reading : (t x k y : ℕ) → Writes a t x k → y < a.listed → (WritesCard a t y → ⊥) → s x k y ≡ greatest s (a.reads t) y

abbrev pub Alike : Account → Stamps → Stamps → Type 0
Alike a s s' = (x k y : ℕ) → x < a.listed → k ≤ a.newest x → y < a.listed → s' x k y ≡ s x k y
