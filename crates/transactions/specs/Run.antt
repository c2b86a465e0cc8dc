-- The law of a whole run: the calls since set-up with their answers, and nothing else. Assumes nothing.
--     number_in r                 an open's answer, as a number
--     after_event a e             the account after one call, kept from its arguments and answer
--     EventLaw a e                the answer of that call is lawful at the account a
--     Step                        one step of a run: an editor's call with the shelf that was set up; a set-up with a shelf of
--                                 so many cards, and its answer; a refused read or commit with a shelf of another set-up
--     after_step a s, StepLaw a s the account after the step s, and that s is lawful at the account a
--     account_after a ss          the account after the steps ss
--     LawfulRun a ss              each step of ss is lawful at the account folded from the steps before it
--     shelf_set_up r n m          the shelf that is in use after a set-up with the shelf n, which answered r, where m was in use
--     Carried m b ss n c          the steps ss, each answered as defined, lead from the shelf m and the books b to n and c
use Rattle.std.specs.Prelude.{◌≡◌, ℕ, List, [], ◌∷◌, ◌++◌, Ok, Err, Result}
use Rattle.stamps.specs.declared.numbers.CardNo.{CardNo}
use Rattle.stamps.specs.declared.numbers.TxNo.{TxNo}
use Rattle.stamps.specs.declared.value.Value.{Value}
use Rattle.shelf.specs.Meaning.{Meaning}
use Rattle.shelf.specs.Sound.{Sound}
use Rattle.isolation.specs.Account.{Account, fresh, after_close}
use Rattle.transactions.specs.declared.refusal.Refusal.{Refusal}
use Rattle.transactions.specs.declared.event.Event.{Event}
use Rattle.transactions.specs.declared.event.Event.TheVariants as events
use Rattle.transactions.specs.State.{State}
use Rattle.transactions.specs.Calls.{set_up_answer, after_set_up, open_answer, Opens, read_answer, after_read, draft_answer, after_draft, abandon_answer, after_end}
use Rattle.transactions.specs.Calls.{after_close as close-books}
use Rattle.transactions.specs.Committing.{commit_answer, commit_shelf, commit_books}
use Rattle.transactions.specs.Law.{OpenLaw, ReadLaw, DraftLaw, CommitLaw, EndLaw, ReadElsewhereLaw, CommitElsewhereLaw}
use Rattle.transactions.specs.Kept.{open_account, read_account, draft_account, commit_account, end_account}

abbrev pub number_in : Result TxNo Refusal → Result ℕ Refusal
number_in (Ok n) = Ok n.0
number_in (Err f) = Err f

abbrev pub after_event : Account → Event → Account
after_event a (events.Open r) = open_account a (number_in r)
after_event a (events.Read t x r) = read_account a t.0 x.0 r
after_event a (events.Draft t x v r) = draft_account a t.0 x.0 v r
after_event a (events.Commit t r) = commit_account a t.0 r
after_event a (events.Abandon t r) = end_account a t.0 r
after_event a events.Close = after_close a

abbrev pub EventLaw : Account → Event → Type 0
EventLaw a (events.Open r) = OpenLaw a (number_in r)
EventLaw a (events.Read t x r) = ReadLaw a t.0 x.0 r
EventLaw a (events.Draft t x v r) = DraftLaw a t.0 x.0 r
EventLaw a (events.Commit t r) = CommitLaw a t.0 r
EventLaw a (events.Abandon t r) = EndLaw a t.0 r
EventLaw a events.Close = Unit {0}

pub data Step : Type 0 where
  OnShelf : Event → Step
  SetUp : (cards : ℕ) → Result (Unit {0}) Refusal → Step
  ReadElsewhere : TxNo → CardNo → Refusal → Step
  CommitElsewhere : TxNo → Refusal → Step

-- a granted set-up begins another account; any other refusal than a conflict changes nothing
abbrev pub after_step : Account → Step → Account
after_step a (OnShelf e) = after_event a e
after_step a (SetUp n (Ok u)) = fresh n
after_step a (SetUp n (Err f)) = a
after_step a (ReadElsewhere t x f) = a
after_step a (CommitElsewhere t f) = commit_account a t.0 (Err f)

abbrev pub StepLaw : Account → Step → Type 0
StepLaw a (OnShelf e) = EventLaw a e
StepLaw a (SetUp n r) = Unit {0}
StepLaw a (ReadElsewhere t x f) = ReadElsewhereLaw a t.0 x.0 f
StepLaw a (CommitElsewhere t f) = CommitElsewhereLaw a t.0 f

abbrev pub account_after : Account → List Step → Account
account_after a [] = a
account_after a (s ∷ ss) = account_after (after_step a s) ss

abbrev pub LawfulRun : Account → List Step → Type 0
LawfulRun a [] = Unit {0}
LawfulRun a (s ∷ ss) = StepLaw a s × LawfulRun (after_step a s) ss

abbrev pub shelf_set_up : Result (Unit {0}) Refusal → (n m : Meaning) → Meaning
shelf_set_up (Ok u) n m = n
shelf_set_up (Err f) n m = m

-- one more step at a time, in any order; an open takes any free place
pub data Carried (m₀ : Meaning) (b₀ : State) : List Step → Meaning → State → Type 0 where
  begun : Carried m₀ b₀ [] m₀ b₀
  sets_up : {ss : List Step} {m : Meaning} {b : State} → Carried m₀ b₀ ss m b → (n : Meaning) → Sound n
      → Carried m₀ b₀ (ss ++ (SetUp n.cards (set_up_answer b n) ∷ [])) (shelf_set_up (set_up_answer b n) n m) (after_set_up b n)
  opens : {ss : List Step} {m : Meaning} {b : State} → Carried m₀ b₀ ss m b → (r : Result TxNo Refusal) (c : State)
      → number_in r ≡ open_answer b → Opens b (open_answer b) c → Carried m₀ b₀ (ss ++ (OnShelf (events.Open r) ∷ [])) m c
  reads : {ss : List Step} {m : Meaning} {b : State} → Carried m₀ b₀ ss m b → (t : TxNo) (x : CardNo)
      → Carried m₀ b₀ (ss ++ (OnShelf (events.Read t x (read_answer b m t.0 x.0)) ∷ [])) m (after_read b m t.0 x.0)
  reads_elsewhere : {ss : List Step} {m : Meaning} {b : State} → Carried m₀ b₀ ss m b → (n : Meaning) (t : TxNo) (x : CardNo) (f : Refusal)
      → read_answer b n t.0 x.0 ≡ Err f → Carried m₀ b₀ (ss ++ (ReadElsewhere t x f ∷ [])) m (after_read b n t.0 x.0)
  drafts : {ss : List Step} {m : Meaning} {b : State} → Carried m₀ b₀ ss m b → (t : TxNo) (x : CardNo) (v : Value)
      → Carried m₀ b₀ (ss ++ (OnShelf (events.Draft t x v (draft_answer b t.0 x.0)) ∷ [])) m (after_draft b t.0 x.0 v)
  commits : {ss : List Step} {m : Meaning} {b : State} → Carried m₀ b₀ ss m b → (t : TxNo)
      → Carried m₀ b₀ (ss ++ (OnShelf (events.Commit t (commit_answer b m t.0)) ∷ [])) (commit_shelf b m t.0) (commit_books b m t.0)
  commits_elsewhere : {ss : List Step} {m : Meaning} {b : State} → Carried m₀ b₀ ss m b → (n : Meaning) (t : TxNo) (f : Refusal)
      → commit_answer b n t.0 ≡ Err f → Carried m₀ b₀ (ss ++ (CommitElsewhere t f ∷ [])) m (commit_books b n t.0)
  abandons : {ss : List Step} {m : Meaning} {b : State} → Carried m₀ b₀ ss m b → (t : TxNo)
      → Carried m₀ b₀ (ss ++ (OnShelf (events.Abandon t (abandon_answer b t.0)) ∷ [])) m (after_end b t.0)
  closes : {ss : List Step} {m : Meaning} {b : State} → Carried m₀ b₀ ss m b
      → Carried m₀ b₀ (ss ++ (OnShelf events.Close ∷ [])) m (close-books b)
