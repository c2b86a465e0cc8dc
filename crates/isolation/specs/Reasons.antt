-- Why the rules are as they are: what goes wrong with less, each shown by an account. Assumes nothing.
--     NewHalf, OldHalf          the two halves of the fit rule: the new stamp against the versions read, and the stamps
--                                 read against the new version
--     LetsThrough test           an account in which the test passes a version whose reading breaks the snapshot
--     EachHalfIsNeeded         each half by itself lets one through
--     written_reads, short_entry  the readings of drafted cards, and an entry made from those alone
--     short_stamps a s t          the stamps after t's commit, with a stamp made from the cards that t writes, forgetting those only read
--     ShortStampsMiss           with those, a version fits whose reading breaks the snapshot
--     one_more a x v              the account after one more whole transaction: it opens, reads card x, drafts it and commits
--     FrozenIsOlder             what a transaction must be answered may be newer than all that was there when it opened
use Rattle.std.specs.Prelude.{◌≡◌, ℕ, suc, ◌<◌, ◌≤◌, true, cond, List, [], ◌∷◌}
use Rattle.stamps.specs.declared.value.Value.{Value}
use Rattle.isolation.specs.History.{Consistent}
use Rattle.isolation.specs.Account.{Account, Reading, Draft, drafted, makes, after_open, after_read, after_draft, after_commit}
use Rattle.isolation.specs.AccountHistory.{Reads, history}
use Rattle.isolation.specs.Vectors.{Stamps, greatest}
use Rattle.isolation.specs.Lawful.{Lawful, Fits, NewestFit, Outdated}
use Rattle.isolation.specs.Theorems.{MayRead}

abbrev pub NewHalf : Account → Stamps → (t x n : ℕ) → Type 0
NewHalf a s t x n = (y m : ℕ) → Reads a t y m → s x n y ≤ m

abbrev pub OldHalf : Account → Stamps → (t x n : ℕ) → Type 0
OldHalf a s t x n = (y m : ℕ) → Reads a t y m → s y m x ≤ n

pub record LetsThrough (Test : Account → Stamps → (t x n : ℕ) → Type 0) : Type 0 where
  pub account : Account
  pub stamps : Stamps
  pub reader : ℕ
  pub card : ℕ
  pub version : ℕ
  pub lawful : Lawful account stamps
  pub may_read : MayRead account reader card
  pub exists : version ≤ account.newest card
  pub passes : Test account stamps reader card version
  pub breaks : Consistent (history (after_read account reader card version)) reader → ⊥

abbrev pub EachHalfIsNeeded : Type 0
EachHalfIsNeeded = LetsThrough NewHalf × LetsThrough OldHalf

-- the readings of cards that are drafted
abbrev pub written_reads : List Draft → List Reading → List Reading
written_reads ds [] = []
written_reads ds (r ∷ rs) = cond (drafted ds r.card) (r ∷ written_reads ds rs) (written_reads ds rs)

abbrev pub short_entry : Account → Stamps → (t y : ℕ) → ℕ
short_entry a s t y =
    let g : ℕ = greatest s (written_reads (a.drafts t) (a.reads t)) y in
    cond (drafted (a.drafts t) y) (suc g) g

abbrev pub short_stamps : Account → Stamps → ℕ → Stamps
short_stamps a s t x k y = cond (makes a t x k) (short_entry a s t y) (s x k y)

pub record ShortStampsMiss : Type 0 where
  pub account : Account
  pub stamps : Stamps
  pub writer : ℕ
  pub reader : ℕ
  pub card : ℕ
  pub version : ℕ
  -- the writer may commit
  pub lawful : Lawful account stamps
  pub is_open : account.opened writer ≡ true
  pub current : Outdated account writer → ⊥
  -- and after its commit the reader may read
  pub may_read : MayRead (after_commit account writer) reader card
  pub exists : version ≤ (after_commit account writer).newest card
  pub fits : Fits (after_commit account writer) (short_stamps account stamps writer) reader card version
  pub breaks : Consistent (history (after_read (after_commit account writer) reader card version)) reader → ⊥

abbrev pub one_more : Account → (x : ℕ) → Value → Account
one_more a x v =
    after_commit (after_draft (after_read (after_open a) (suc a.given) x (a.newest x)) (suc a.given) x v) (suc a.given)

-- a transaction opens, then one more writes card x: the first must now be answered a version newer than any at its opening
pub record FrozenIsOlder : Type 0 where
  pub before : Account
  pub stamps : Stamps
  pub card : ℕ
  pub value : Value
  pub version : ℕ
  pub lawful : Lawful (one_more (after_open before) card value) stamps
  pub may_read : MayRead (one_more (after_open before) card value) (suc before.given) card
  pub answer : NewestFit (one_more (after_open before) card value) stamps (suc before.given) card version
  pub newer : (after_open before).newest card < version
