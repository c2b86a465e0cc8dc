-- The theorems, each the contract of a function of this crate: from a granted set-up on, every call obeys its law and carries on what is
-- watched, whatever it answers. Assumes nothing.
--     SetUpBegins               a granted set-up begins an account, with the shelf's cards and nothing in it
--     SetUpRefusedKeeps, ReadElsewhereKeeps, CommitElsewhereKeeps
--                                 a refused set-up, with any shelf, and a read and a commit that are refused with a shelf of another set-up:
--                                 the law of the refusal, and what is watched with its own shelf is watched still
--     ConflictAloneEnds         of all refusals of a commit, as it is defined, a conflict alone ends the transaction
--     CapIsNeverMet             the count of a drafted card in the stamp of a granted commit is the greatest count read plus 1: it is at most 65,535
--     OpenKeeps, ReadKeeps, DraftKeeps, CommitKeeps, AbandonKeeps, CloseKeeps
--                                 the law of each call, and the account after it, kept from the arguments and the answer
--     LawPinsAnswers            the law leaves a read, a draft and an abandon one answer: two lawful ones are the same
--     ShelfIsTold               the shelf holds the account's versions, each with its words and writer
--     StampsAreVectors          the shelf's stamps are the dependence vectors of the account
--     RunsArePlain              of a lawful run with no granted set-up in it the plain law holds, which names no account; and from a granted
--                                 set-up on, a lawful run is one of its own
--     AccountIsIsolated         every snapshot is consistent and of committed versions, and no two independent committed transactions wrote one card
--     RunsAreLawful             from a granted set-up on a sound shelf, any calls in any order, set-ups and calls with other shelves among
--                                 them, make a lawful run, and the account folded from them is watched
--     JournalIsHistory          the journal's lines obey the rules of a history file, and what the judge is asked holds of them
--     JournalIsTaken            a file whose records read as the journal's lines is taken by the judge, record by record and to its end, as those lines
use Rattle.std.specs.Prelude.{◌≡◌, ℕ, suc, ◌≤◌, Bool, true, List, ◌∷◌, ◌++◌, length, Ok, Err, Result}
use Rattle.stamps.specs.declared.value.Value.{Value}
use Rattle.stamps.specs.Counts.{most}
use Rattle.shelf.specs.Meaning.{Meaning}
use Rattle.shelf.specs.Sound.{Sound}
use Rattle.rules.specs.Rules.{scanned, all_ended}
use Rattle.isolation.specs.Account.{Account, fresh, drafted, after_close}
use Rattle.isolation.specs.Theorems.{Isolated}
use Rattle.isolation.specs.Vectors.{greatest}
use Rattle.transactions.specs.declared.reading.Reading.{Reading as Answer}
use Rattle.transactions.specs.declared.refusal.Refusal.{Refusal}
use Rattle.transactions.specs.State.{State}
use Rattle.transactions.specs.Calls.{set_up_answer, after_set_up, open_answer, Opens, read_answer, after_read, draft_answer, after_draft, abandon_answer, after_end}
use Rattle.transactions.specs.Calls.{after_close as close-books}
use Rattle.transactions.specs.Choosing.{stamps_of}
use Rattle.transactions.specs.Committing.{ends_by, commit_answer, commit_shelf, commit_books}
use Rattle.transactions.specs.Law.{OpenLaw, ReadLaw, DraftLaw, CommitLaw, EndLaw, ReadElsewhereLaw, CommitElsewhereLaw}
use Rattle.transactions.specs.Kept.{is_conflict, open_account, read_account, draft_account, commit_account, end_account}
use Rattle.transactions.specs.Journal.{FileRules, InFile, JudgedClean}
use Rattle.transactions.specs.Shelved.{Shelved, Stamped}
use Rattle.transactions.specs.Watched.{Watched}
use Rattle.transactions.specs.Run.{Step, account_after, LawfulRun, Carried}
use Rattle.transactions.specs.Run.Step.{SetUp}
use Rattle.transactions.specs.Plain.{NoSetUp, PlainLaw}

abbrev pub SetUpBegins : Type 0
SetUpBegins = (m : Meaning) (b : State) → Sound m → set_up_answer b m ≡ Ok tt → Watched (fresh m.cards) m (after_set_up b m)

abbrev pub SetUpRefusedKeeps : Type 0
SetUpRefusedKeeps = (a : Account) (m n : Meaning) (b : State) (f : Refusal) → Watched a m b → set_up_answer b n ≡ Err f
    → Watched a m (after_set_up b n)

abbrev pub ReadElsewhereKeeps : Type 0
ReadElsewhereKeeps = (a : Account) (m n : Meaning) (b : State) (t x : ℕ) (f : Refusal) → Watched a m b → read_answer b n t x ≡ Err f
    → ReadElsewhereLaw a t x f × Watched a m (after_read b n t x)

abbrev pub CommitElsewhereKeeps : Type 0
CommitElsewhereKeeps = (a : Account) (m n : Meaning) (b : State) (t : ℕ) (f : Refusal) → Watched a m b → commit_answer b n t ≡ Err f
    → CommitElsewhereLaw a t f × Watched (commit_account a t (Err f)) m (commit_books b n t)

abbrev pub ConflictAloneEnds : Type 0
ConflictAloneEnds = (f : Refusal) → ends_by f ≡ is_conflict f

abbrev pub CapIsNeverMet : Type 0
CapIsNeverMet = (a : Account) (m : Meaning) (b : State) (t y : ℕ) → Sound m → Watched a m b → a.opened t ≡ true → commit_answer b m t ≡ Ok tt
    → drafted (a.drafts t) y ≡ true → suc (greatest (stamps_of m) (a.reads t) y) ≤ most

-- whichever free place is taken
abbrev pub OpenKeeps : Type 0
OpenKeeps = (a : Account) (m : Meaning) (b c : State) → Watched a m b → Opens b (open_answer b) c
    → OpenLaw a (open_answer b) × Watched (open_account a (open_answer b)) m c

abbrev pub ReadKeeps : Type 0
ReadKeeps = (a : Account) (m : Meaning) (b : State) (t x : ℕ) → Watched a m b
    → ReadLaw a t x (read_answer b m t x) × Watched (read_account a t x (read_answer b m t x)) m (after_read b m t x)

abbrev pub DraftKeeps : Type 0
DraftKeeps = (a : Account) (m : Meaning) (b : State) (t x : ℕ) (v : Value) → Watched a m b
    → DraftLaw a t x (draft_answer b t x) × Watched (draft_account a t x v (draft_answer b t x)) m (after_draft b t x v)

abbrev pub CommitKeeps : Type 0
CommitKeeps = (a : Account) (m : Meaning) (b : State) (t : ℕ) → Sound m → Watched a m b
    → CommitLaw a t (commit_answer b m t) × Watched (commit_account a t (commit_answer b m t)) (commit_shelf b m t) (commit_books b m t)

abbrev pub AbandonKeeps : Type 0
AbandonKeeps = (a : Account) (m : Meaning) (b : State) (t : ℕ) → Watched a m b
    → EndLaw a t (abandon_answer b t) × Watched (end_account a t (abandon_answer b t)) m (after_end b t)

abbrev pub CloseKeeps : Type 0
CloseKeeps = (a : Account) (m : Meaning) (b : State) → Watched a m b → Watched (after_close a) m (close-books b)

abbrev pub ShelfIsTold : Type 0
ShelfIsTold = (a : Account) (m : Meaning) (b : State) → Watched a m b → Shelved a m

abbrev pub StampsAreVectors : Type 0
StampsAreVectors = (a : Account) (m : Meaning) (b : State) → Watched a m b → Stamped a m

abbrev pub JournalIsHistory : Type 0
JournalIsHistory = (a : Account) (m : Meaning) (b : State) → Watched a m b → FileRules b.journal × JudgedClean b.journal

abbrev pub AccountIsIsolated : Type 0
AccountIsIsolated = (a : Account) (m : Meaning) (b : State) → Watched a m b → Isolated a

abbrev pub RunsAreLawful : Type 0
RunsAreLawful = (m n : Meaning) (b c : State) (ss : List Step) → Sound m → set_up_answer b m ≡ Ok tt → Carried m (after_set_up b m) ss n c
    → LawfulRun (fresh m.cards) ss × Watched (account_after (fresh m.cards) ss) n c

abbrev pub JournalIsTaken : Type 0
JournalIsTaken = (a : Account) (m : Meaning) (b : State) (bs : List ℕ) → Watched a m b → InFile bs b.journal
    → all_ended (scanned bs (length b.journal)) ≡ Ok b.journal

pub record LawPinsAnswers : Type 0 where
  pub of_reads : (a : Account) (t x : ℕ) (p q : Result Answer Refusal) → ReadLaw a t x p → ReadLaw a t x q → p ≡ q
  pub of_drafts : (a : Account) (t x : ℕ) (p q : Result (Unit {0}) Refusal) → DraftLaw a t x p → DraftLaw a t x q → p ≡ q
  pub of_ends : (a : Account) (t : ℕ) (p q : Result (Unit {0}) Refusal) → EndLaw a t p → EndLaw a t q → p ≡ q

pub record RunsArePlain : Type 0 where
  pub plain : (n : ℕ) (ss : List Step) → NoSetUp ss → LawfulRun (fresh n) ss → PlainLaw ss
  pub since : (a : Account) (n : ℕ) (rs ss : List Step) → LawfulRun a (rs ++ (SetUp n (Ok tt) ∷ ss)) → LawfulRun (fresh n) ss
