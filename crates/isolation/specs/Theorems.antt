-- The theorems, each the contract of a function of this crate. Assumes nothing.
--     FittingIsConsistent       a version fits all cards read so far exactly when reading it keeps the snapshot consistent
--     NewestFitIsNewest        the newest that fits keeps it, and every newer version breaks it
--     SomeVersionFits           of every listed card some version fits, so there is a newest that does
--     ConflictIsClash           a drafted card has a newer version than the one read exactly when granting the commit would
--                                 let two independent committed transactions write one card
--     StepsKeepLaw              each step of the rules keeps the account lawful
--     LawfulIsIsolated          in a lawful account every snapshot is consistent and of committed versions, and nothing clashes
--     OneSolution                dependence vectors: the equations hold of a lawful account's stamps, and of nothing else
--     RulesHaveVectors          on every account that the rules make the equations have one solution
--     VectorsDecide              on such an account, with its dependence vectors as stamps: all of the above
--     MayRead, Isolated          a first read is asked for; what isolation asks of an account
--     Decided a s                 fitting is consistency, some version fits, outdated is clash, and the account is isolated
use Rattle.std.specs.Prelude.{◌≡◌, ℕ, ◌<◌, ◌≤◌, true, false, ◌⊎◌}
use Rattle.stamps.specs.declared.value.Value.{Value}
use Rattle.isolation.specs.History.{Consistent, Clash, ConsistentSnapshots, WriteConflictFree}
use Rattle.isolation.specs.Account.{Account, has_read, fresh, after_open, after_read, after_draft, after_commit, after_end, after_close}
use Rattle.isolation.specs.AccountHistory.{Reads, history}
use Rattle.isolation.specs.Vectors.{Stamps, Vectors, Alike}
use Rattle.isolation.specs.Lawful.{Lawful, Fits, NewestFit, Outdated, Extends}
use Rattle.isolation.specs.Rules.{Ruled}

-- t is open, and has not read card x, which is listed
pub record MayRead (a : Account) (t x : ℕ) : Type 0 where
  pub is_open : a.opened t ≡ true
  pub is_listed : x < a.listed
  pub is_first : has_read (a.reads t) x ≡ false

abbrev pub FittingIsConsistent : Type 0
FittingIsConsistent = (a : Account) (s : Stamps) (t x n : ℕ) → Lawful a s → MayRead a t x → n ≤ a.newest x
    → (Fits a s t x n → Consistent (history (after_read a t x n)) t) × (Consistent (history (after_read a t x n)) t → Fits a s t x n)

abbrev pub NewestFitIsNewest : Type 0
NewestFitIsNewest = (a : Account) (s : Stamps) (t x n : ℕ) → Lawful a s → MayRead a t x → NewestFit a s t x n
    → Consistent (history (after_read a t x n)) t
    × ((m : ℕ) → n < m → m ≤ a.newest x → Consistent (history (after_read a t x m)) t → ⊥)

abbrev pub SomeVersionFits : Type 0
SomeVersionFits = (a : Account) (s : Stamps) (t x : ℕ) → Lawful a s → x < a.listed → (n : ℕ) × NewestFit a s t x n

abbrev pub ConflictIsClash : Type 0
ConflictIsClash = (a : Account) (s : Stamps) (t : ℕ) → Lawful a s → a.opened t ≡ true
    → (Outdated a t → Clash (history (after_commit a t))) × (Clash (history (after_commit a t)) → Outdated a t)

-- Stamps are free at entries past the listed cards and at versions that do not exist; a commit may leave others there.
pub record StepsKeepLaw : Type 0 where
  pub on_set_up : (n : ℕ) (s : Stamps) → ((x y : ℕ) → x < n → y < n → s x 0 y ≡ 0) → Lawful (fresh n) s
  pub on_open : (a : Account) (s : Stamps) → Lawful a s → Lawful (after_open a) s
  pub on_read : (a : Account) (s : Stamps) (t x n : ℕ) → Lawful a s → a.opened t ≡ true → x < a.listed → n ≤ a.newest x
      → (has_read (a.reads t) x ≡ false → Fits a s t x n) → Lawful (after_read a t x n) s
  pub on_draft : (a : Account) (s : Stamps) (t x : ℕ) (v : Value) → Lawful a s → has_read (a.reads t) x ≡ true → Lawful (after_draft a t x v) s
  pub on_commit : (a : Account) (s : Stamps) (t : ℕ) (s' : Stamps) → Lawful a s → a.opened t ≡ true → (Outdated a t → ⊥)
      → Extends a s t s' → Lawful (after_commit a t) s'
  pub on_end : (a : Account) (s : Stamps) (t : ℕ) → Lawful a s → Lawful (after_end a t) s
  pub on_close : (a : Account) (s : Stamps) → Lawful a s → Lawful (after_close a) s

-- what isolation asks of an account
pub record Isolated (a : Account) : Type 0 where
  pub consistent : ConsistentSnapshots (history a)
  pub clash_free : WriteConflictFree (history a)
  pub of_committed : (t x k : ℕ) → Reads a t x k → (k ≤ a.newest x) × ((k ≡ 0) ⊎ (a.committed (a.writer x k) ≡ true))

abbrev pub LawfulIsIsolated : Type 0
LawfulIsIsolated = (a : Account) (s : Stamps) → Lawful a s → Isolated a

abbrev pub OneSolution : Type 0
OneSolution = (a : Account) (s : Stamps) → Lawful a s → Vectors a s × ((s' : Stamps) → Vectors a s' → Alike a s s')

abbrev pub RulesHaveVectors : Type 0
RulesHaveVectors = (a : Account) → Ruled a → (s : Stamps) × Vectors a s × ((s' : Stamps) → Vectors a s' → Alike a s s')

-- with the stamps s the rules' tests decide what the law asks
pub record Decided (a : Account) (s : Stamps) : Type 0 where
  pub fitting : (t x n : ℕ) → MayRead a t x → n ≤ a.newest x
      → (Fits a s t x n → Consistent (history (after_read a t x n)) t) × (Consistent (history (after_read a t x n)) t → Fits a s t x n)
  pub newest_fit : (t x : ℕ) → x < a.listed → (n : ℕ) × NewestFit a s t x n
  pub conflict : (t : ℕ) → a.opened t ≡ true
      → (Outdated a t → Clash (history (after_commit a t))) × (Clash (history (after_commit a t)) → Outdated a t)
  pub isolated : Isolated a

abbrev pub VectorsDecide : Type 0
VectorsDecide = (a : Account) (s : Stamps) → Ruled a → Vectors a s → Decided a s
