-- What holds of an account and its stamps from set-up on. A reader need not believe it: every step keeps it, and the laws
-- follow from it. Assumes nothing.
--     Follows h u v, Silent h t   u is v or depends on it; t wrote no version
--     Meant h n s                 what stamps mean over a history on n cards: an entry counts the versions that the writer
--                                 wrote or depends on
--     Fitting h s t               t's reads fit one another
--     Kept a                      who is open, committed, has read and drafted, as the steps leave it
--     Lawful a s                  all of these, and the equations of dependence vectors
--     Fits a s t x n              version n of card x fits every card that t has read
--     NewestFit a s t x n        n is the newest version of card x that does
--     Outdated a t                a card that t drafted has a newer version than the one t read
--     Current a t                 every card that t drafted has as its newest version one that t read
--     new_entry a s t y           the stamp that t's commit makes, at y
--     Extends a s t s'            s' is s, with that stamp at the versions that t's commit makes
use Rattle.std.specs.Prelude.{◌≡◌, ℕ, suc, ◌<◌, ◌≤◌, true, false, cond, ◌⊎◌}
use Rattle.isolation.specs.History.{History, Depends}
use Rattle.isolation.specs.Account.{Account, drafted}
use Rattle.isolation.specs.AccountHistory.{Reads, Writes, history}
use Rattle.isolation.specs.Vectors.{Stamps, Vectors, Alike, greatest}

-- u is v, or depends on it
abbrev pub Follows : History → (u v : ℕ) → Type 0
Follows h u v = (u ≡ v) ⊎ Depends h u v

-- t wrote no version
abbrev pub Silent : History → ℕ → Type 0
Silent h t = (x k : ℕ) → h.Wrote t x k → ⊥

pub record Meant (h : History) (listed : ℕ) (s : Stamps) : Type 0 where
  -- reads and writes are of listed cards; a version above 0 that was read was written; a version has one writer
  pub read_listed : (t x k : ℕ) → h.Read t x k → x < listed
  pub wrote_listed : (t x k : ℕ) → h.Wrote t x k → x < listed
  pub wrote_above : (t x k : ℕ) → h.Wrote t x k → 0 < k
  pub exists : (t x k : ℕ) → h.Read t x (suc k) → (u : ℕ) × h.Wrote u x (suc k)
  pub sole : (u v x k : ℕ) → h.Wrote u x k → h.Wrote v x k → u ≡ v
  -- the writer of a version read the one before
  pub chain : (u x k : ℕ) → h.Wrote u x (suc k) → h.Read u x k
  -- version 0 has zeros, and any other version's own entry is its number
  pub zeros : (x y : ℕ) → x < listed → y < listed → s x 0 y ≡ 0
  pub own : (u x k : ℕ) → h.Wrote u x k → s x k x ≡ k
  -- an entry reaches k exactly when the writer is, or depends on, the writer of the entry's version k
  pub reached : (u x n y k : ℕ) → h.Wrote u x n → y < listed → 0 < k → k ≤ s x n y → (v : ℕ) × h.Wrote v y k × Follows h u v
  pub reaches : (u v x n y k : ℕ) → h.Wrote u x n → h.Wrote v y k → Follows h u v → k ≤ s x n y

abbrev pub Fitting : History → Stamps → ℕ → Type 0
Fitting h s t = (x m y l : ℕ) → h.Read t x m → h.Read t y l → s x m y ≤ l

pub record Kept (a : Account) : Type 0 where
  -- who is open, committed or has read has a number given; nobody is open and committed
  pub open_given : (t : ℕ) → a.opened t ≡ true → (0 < t) × (t ≤ a.given)
  pub open_undone : (t : ℕ) → a.opened t ≡ true → a.committed t ≡ false
  pub done_given : (t : ℕ) → a.committed t ≡ true → (0 < t) × (t ≤ a.given)
  pub read_given : (t x k : ℕ) → Reads a t x k → (0 < t) × (t ≤ a.given)
  -- reads are of versions that there are, drafts of cards read, and versions above 0 by committed transactions
  pub read_exists : (t x k : ℕ) → Reads a t x k → k ≤ a.newest x
  pub drafted_read : (t x : ℕ) → drafted (a.drafts t) x ≡ true → (k : ℕ) × Reads a t x k
  pub writer_done : (t x k : ℕ) → Writes a t x k → a.committed t ≡ true

pub record Lawful (a : Account) (s : Stamps) : Type 0 where
  pub meant : Meant (history a) a.listed s
  pub fitting : (t : ℕ) → Fitting (history a) s t
  pub kept : Kept a
  pub vectors : Vectors a s

-- n fits card y read at m: n's entry for y is at most m, and n is at least the entry for x in the stamp read
abbrev pub Fits : Account → Stamps → (t x n : ℕ) → Type 0
Fits a s t x n = (y m : ℕ) → Reads a t y m → (s x n y ≤ m) × (s y m x ≤ n)

pub record NewestFit (a : Account) (s : Stamps) (t x n : ℕ) : Type 0 where
  pub exists : n ≤ a.newest x
  pub fits : Fits a s t x n
  pub newest : (m : ℕ) → n < m → m ≤ a.newest x → Fits a s t x m → ⊥

pub record Outdated (a : Account) (t : ℕ) : Type 0 where
  pub card : ℕ
  pub version : ℕ
  pub draft : drafted (a.drafts t) card ≡ true
  pub read : Reads a t card version
  pub newer : version < a.newest card

abbrev pub Current : Account → ℕ → Type 0
Current a t = (x : ℕ) → drafted (a.drafts t) x ≡ true → Reads a t x (a.newest x)

abbrev pub new_entry : Account → Stamps → (t y : ℕ) → ℕ
new_entry a s t y = cond (drafted (a.drafts t) y) (suc (greatest s (a.reads t) y)) (greatest s (a.reads t) y)

pub record Extends (a : Account) (s : Stamps) (t : ℕ) (s' : Stamps) : Type 0 where
  pub old : Alike a s s'
  pub new : (x y : ℕ) → drafted (a.drafts t) x ≡ true → y < a.listed → s' x (suc (a.newest x)) y ≡ new_entry a s t y
