-- The accounts that the rules make, with no stamp in them. Assumes nothing.
--     Ruled a                     a was made from a set-up by calls that the rules grant: a read keeps the reader's snapshot
--                                 consistent, a draft is of a card read, and a commit lets no two independent committed
--                                 transactions write one card
use Rattle.std.specs.Prelude.{◌≡◌, ℕ, ◌<◌, ◌≤◌, true}
use Rattle.stamps.specs.declared.value.Value.{Value}
use Rattle.isolation.specs.History.{Consistent, Clash}
use Rattle.isolation.specs.Account.{Account, has_read, fresh, after_open, after_read, after_draft, after_commit, after_end, after_close}
use Rattle.isolation.specs.AccountHistory.{history}

pub data Ruled : Account → Type 0 where
  set_up : (n : ℕ) → Ruled (fresh n)
  opens : {a : Account} → Ruled a → Ruled (after_open a)
  reads : {a : Account} → Ruled a → (t x n : ℕ) → a.opened t ≡ true → x < a.listed → n ≤ a.newest x
      → Consistent (history (after_read a t x n)) t → Ruled (after_read a t x n)
  drafts : {a : Account} → Ruled a → (t x : ℕ) (v : Value) → a.opened t ≡ true → has_read (a.reads t) x ≡ true → Ruled (after_draft a t x v)
  commits : {a : Account} → Ruled a → (t : ℕ) → a.opened t ≡ true
      → (Clash (history (after_commit a t)) → ⊥) → Ruled (after_commit a t)
  ends : {a : Account} → Ruled a → (t : ℕ) → Ruled (after_end a t)
  closes : {a : Account} → Ruled a → Ruled (after_close a)
