-- What each call promises of every account that is watched, as its contract cites it: m and n are the shelf before and after the call, b and c
-- the books, r the answer. Assumes nothing.
--     Upheld a m b                the account a is watched, and so: shelf and stamps are as it tells, it is isolated, and the journal is a clean history
--     StillWatched f b c         what is watched with any shelf, with the books b, is watched still with the books c, after the step f of the account
--     SetUpPromise m b r c      a granted set-up begins an account, whatever was watched; a refused one leaves what is watched, with any shelf
--     ReadRefusal b r c, CommitRefusal b t r c
--                                 a read and a commit that are refused, with whatever shelf, leave what is watched with its own, but that a
--                                 conflict ends the transaction t
--     OpenPromise m b r c, ReadPromise m b t x r c, DraftPromise m b t x v r c, CommitPromise m b t r n c, AbandonPromise m b t r c,
--     ClosePromise m b c         the law of the call, and what holds of the account after it
use Rattle.std.specs.Prelude.{◌≡◌, ℕ, Ok, Err, Result}
use Rattle.stamps.specs.declared.value.Value.{Value}
use Rattle.shelf.specs.Meaning.{Meaning}
use Rattle.isolation.specs.Account.{Account, fresh, after_close}
use Rattle.isolation.specs.Theorems.{Isolated}
use Rattle.transactions.specs.declared.reading.Reading.{Reading as Answer}
use Rattle.transactions.specs.declared.refusal.Refusal.{Refusal}
use Rattle.transactions.specs.State.{State}
use Rattle.transactions.specs.Law.{OpenLaw, ReadLaw, DraftLaw, CommitLaw, EndLaw}
use Rattle.transactions.specs.Kept.{open_account, read_account, draft_account, commit_account, end_account}
use Rattle.transactions.specs.Shelved.{Shelved, Stamped}
use Rattle.transactions.specs.Journal.{FileRules, JudgedClean}
use Rattle.transactions.specs.Watched.{Watched}

pub record Upheld (a : Account) (m : Meaning) (b : State) : Type 0 where
  pub watched : Watched a m b
  pub shelf : Shelved a m
  pub stamps : Stamped a m
  pub isolated : Isolated a
  pub rules : FileRules b.journal
  pub clean : JudgedClean b.journal

abbrev pub StillWatched : (Account → Account) → (b c : State) → Type 0
StillWatched f b c = (a : Account) (n : Meaning) → Watched a n b → Upheld (f a) n c

pub record SetUpPromise (m : Meaning) (b : State) (r : Result (Unit {0}) Refusal) (c : State) : Type 0 where
  pub granted : r ≡ Ok tt → Upheld (fresh m.cards) m c
  pub refused : (f : Refusal) → r ≡ Err f → StillWatched (λ a. a) b c

abbrev pub ReadRefusal : State → Result Answer Refusal → State → Type 0
ReadRefusal b r c = (f : Refusal) → r ≡ Err f → StillWatched (λ a. a) b c

abbrev pub CommitRefusal : State → ℕ → Result (Unit {0}) Refusal → State → Type 0
CommitRefusal b t r c = (f : Refusal) → r ≡ Err f → StillWatched (λ a. commit_account a t r) b c

abbrev pub OpenPromise : Meaning → State → Result ℕ Refusal → State → Type 0
OpenPromise m b r c = (a : Account) → Watched a m b → OpenLaw a r × Upheld (open_account a r) m c

abbrev pub ReadPromise : Meaning → State → (t x : ℕ) → Result Answer Refusal → State → Type 0
ReadPromise m b t x r c = (a : Account) → Watched a m b → ReadLaw a t x r × Upheld (read_account a t x r) m c

abbrev pub DraftPromise : Meaning → State → (t x : ℕ) → Value → Result (Unit {0}) Refusal → State → Type 0
DraftPromise m b t x v r c = (a : Account) → Watched a m b → DraftLaw a t x r × Upheld (draft_account a t x v r) m c

abbrev pub CommitPromise : Meaning → State → ℕ → Result (Unit {0}) Refusal → Meaning → State → Type 0
CommitPromise m b t r n c = (a : Account) → Watched a m b → CommitLaw a t r × Upheld (commit_account a t r) n c

abbrev pub AbandonPromise : Meaning → State → ℕ → Result (Unit {0}) Refusal → State → Type 0
AbandonPromise m b t r c = (a : Account) → Watched a m b → EndLaw a t r × Upheld (end_account a t r) m c

abbrev pub ClosePromise : Meaning → State → State → Type 0
ClosePromise m b c = (a : Account) → Watched a m b → Upheld (after_close a) m c
