-- The account as a history, so that dependence, consistency and clashes are those of any history. Assumes nothing.
--     Has rs x k                  the readings rs hold version k of card x
--     Reads a t x k               t read version k of card x
--     Writes a t x k              t is the writer of version k of card x, which is above 0 and exists
--     history a                   these two, and who committed
--     WritesCard a t x           t wrote some version of card x
use Rattle.std.specs.Prelude.{◌≡◌, ℕ, ◌<◌, ◌≤◌, true, ◌⊎◌, List, [], ◌∷◌}
use Rattle.isolation.specs.History.{History}
use Rattle.isolation.specs.Account.{Account, Reading}

abbrev pub Has : List Reading → (x k : ℕ) → Type 0
Has [] x k = ⊥
Has (r ∷ rs) x k = ((r.card ≡ x) × (r.version ≡ k)) ⊎ Has rs x k

abbrev pub Reads : Account → (t x k : ℕ) → Type 0
Reads a t x k = Has (a.reads t) x k

abbrev pub Writes : Account → (t x k : ℕ) → Type 0
Writes a t x k = (0 < k) × (k ≤ a.newest x) × (a.writer x k ≡ t)

abbrev pub history : Account → History
history a = record { Read = Reads a; Wrote = Writes a; Done = λ t. a.committed t ≡ true }

abbrev pub WritesCard : Account → (t x : ℕ) → Type 0
WritesCard a t x = (k : ℕ) × Writes a t x k
