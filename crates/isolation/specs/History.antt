-- What a history of transactions is, and what isolation asks of one. Assumes nothing.
--     History                     what was read and written, and who committed, by three relations
--     ReadsFrom h t u             t read a version that u wrote
--     Depends h t u               one or more such steps lead from t to u
--     Independent h t u           neither depends on the other
--     Consistent h t              t's snapshot: nobody that t depends on wrote a newer version of a card than t read
--     Clash h                     two independent committed transactions wrote one card
--     ConsistentSnapshots h      every transaction's snapshot is consistent
--     WriteConflictFree h       no two independent committed transactions wrote one card
-- Transactions, cards and versions are numbers. Version 0 of a card was there from the start, and no transaction wrote it;
-- of two versions of a card the one with the higher number is newer.
use Rattle.std.specs.Prelude.{◌≡◌, ℕ, ◌≤◌}

pub record History : Type 1 where
  -- transaction t read version k of card x
  pub Read : (t x k : ℕ) → Type 0
  -- transaction t wrote version k of card x
  pub Wrote : (t x k : ℕ) → Type 0
  -- transaction t committed
  pub Done : (t : ℕ) → Type 0

-- t read, of some card, a version that u wrote
pub record ReadsFrom (h : History) (t u : ℕ) : Type 0 where
  pub card : ℕ
  pub version : ℕ
  pub read : h.Read t card version
  pub wrote : h.Wrote u card version

-- a chain of one or more steps leads from t to u
pub data Depends (h : History) : ℕ → ℕ → Type 0 where
  one : {t u : ℕ} → ReadsFrom h t u → Depends h t u
  more : {t u v : ℕ} → ReadsFrom h t u → Depends h u v → Depends h t v

-- neither depends on the other
pub record Independent (h : History) (t u : ℕ) : Type 0 where
  pub forth : Depends h t u → ⊥
  pub back : Depends h u t → ⊥

-- no transaction that t depends on wrote a newer version of a card than the version t read
abbrev pub Consistent : History → ℕ → Type 0
Consistent h t = (u x k n : ℕ) → h.Read t x k → Depends h t u → h.Wrote u x n → n ≤ k

-- two committed transactions, independent of one another, wrote one card
pub record Clash (h : History) : Type 0 where
  pub one : ℕ
  pub other : ℕ
  pub two : one ≡ other → ⊥
  pub one_done : h.Done one
  pub other_done : h.Done other
  pub card : ℕ
  pub one_version : ℕ
  pub other_version : ℕ
  pub one_wrote : h.Wrote one card one_version
  pub other_wrote : h.Wrote other card other_version
  pub apart : Independent h one other

abbrev pub ConsistentSnapshots : History → Type 0
ConsistentSnapshots h = (t : ℕ) → Consistent h t

abbrev pub WriteConflictFree : History → Type 0
WriteConflictFree h = Clash h → ⊥
