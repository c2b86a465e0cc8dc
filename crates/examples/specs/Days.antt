-- A day in the catalogue: calls, each with the answer expected of it. Assumes nothing.
--     Call, Said                  what is asked of the catalogue, and what it answers
--     Step                        a call with the answer expected of it, `call ⟼ answer`
--     counts_of m x k w           the first w counts of the stamp of version k of card x; none where the shelf lacks the version
--     said b m c                  what the books b on the shelf m answer to the call c
--     Leaves b m c P              P holds of whatever books and shelf the call may leave; open may take any free place
--     Goes b m ss                 from b and m on, each step of ss is answered as expected
--     fresh_shelf n, new_books    a shelf of n cards that has version 0 of each alone; books before set-up
--     Day ss                      a fresh shelf of three cards keeps the laws of shelves, set-up of the new books on it is granted, and ss go
--                                 as expected from there
use Rattle.std.specs.Prelude.{◌≡◌, ℕ, zero, suc, false, cond, List, [], ◌∷◌, ◌++◌, Some, None, Ok, Err, Option, Result, ◌==◌, nat_lt}
use Rattle.stamps.specs.declared.value.Value.{Value}
use Rattle.records.specs.declared.line.Line.{Line}
use Rattle.shelf.specs.Meaning.{Meaning, first_version}
use Rattle.shelf.specs.Questions.{entry_of}
use Rattle.shelf.specs.Sound.{Sound}
use Rattle.transactions.specs.declared.reading.Reading.{Reading}
use Rattle.transactions.specs.declared.refusal.Refusal.{Refusal}
use Rattle.transactions.specs.Refusals.{refusal_number}
use Rattle.transactions.specs.State.{State}
use Rattle.transactions.specs.Calls.{set_up_answer, after_set_up, open_answer, Opens, read_answer, after_read, draft_answer, after_draft}
use Rattle.transactions.specs.Committing.{commit_answer, commit_books, commit_shelf}

pub data Call : Type 0 where
  opens : Call
  -- transaction t reads card x
  reads : (t x : ℕ) → Call
  -- t drafts these words for card x
  drafts : (t x : ℕ) → Value → Call
  commits : (t : ℕ) → Call
  -- which stamp version k of card x has
  stamp : (x k : ℕ) → Call
  -- which lines the journal has
  journal : Call

pub data Said : Type 0 where
  number : ℕ → Said
  -- a version, and the words
  version : ℕ → Value → Said
  granted : Said
  -- by this number
  refused : ℕ → Said
  counts : List ℕ → Said
  lines : List Line → Said

infix 70 ◌⟼◌
pub data Step : Type 0 where
  ◌⟼◌ : Call → Said → Step

abbrev pub opening_said : Result ℕ Refusal → Said
opening_said (Ok n) = number n
opening_said (Err f) = refused (refusal_number f)

abbrev pub reading_said : Result Reading Refusal → Said
reading_said (Ok r) = version r.version.0 r.value
reading_said (Err f) = refused (refusal_number f)

abbrev pub grant_said : Result (Unit {0}) Refusal → Said
grant_said (Ok u) = granted
grant_said (Err f) = refused (refusal_number f)

abbrev pub one_count : Option ℕ → List ℕ
one_count None = []
one_count (Some n) = n ∷ []

abbrev pub counts_of : Meaning → (x k w : ℕ) → List ℕ
counts_of m x k zero = []
counts_of m x k (suc y) = counts_of m x k y ++ one_count (entry_of m x k y)

abbrev pub said : State → Meaning → Call → Said
said b m opens = opening_said (open_answer b)
said b m (reads t x) = reading_said (read_answer b m t x)
said b m (drafts t x v) = grant_said (draft_answer b t x)
said b m (commits t) = grant_said (commit_answer b m t)
said b m (stamp x k) = counts (counts_of m x k m.width)
said b m journal = lines b.journal

abbrev pub Leaves : State → Meaning → Call → (State → Meaning → Type 0) → Type 0
Leaves b m opens P = (b' : State) → Opens b (open_answer b) b' → P b' m
Leaves b m (reads t x) P = P (after_read b m t x) m
Leaves b m (drafts t x v) P = P (after_draft b t x v) m
Leaves b m (commits t) P = P (commit_books b m t) (commit_shelf b m t)
Leaves b m (stamp x k) P = P b m
Leaves b m journal P = P b m

abbrev pub Goes : State → Meaning → List Step → Type 0
Goes b m [] = Unit {0}
Goes b m ((c ⟼ a) ∷ ss) = (said b m c ≡ a) × Leaves b m c (λ b' m'. Goes b' m' ss)

-- each card in a drawer of its own with eight free places, and stamps as wide as there are cards
abbrev pub fresh_shelf : ℕ → Meaning
fresh_shelf n =
    record {
      cards = n;
      width = n;
      line = λ c. cond (nat_lt c n) (first_version ∷ []) [];
      shares = λ c d. cond (nat_lt c n) (c == d) false;
      free = λ c. cond (nat_lt c n) 8 0;
    }

-- sixteen open places, with read entries for three cards and 32 drafts each, and a journal of a hundred lines
abbrev pub new_books : State
new_books =
    record {
      sizes = record { places = 16; reads = 48; drafts = 512; lines = 100 };
      cards = 0;
      width = 0;
      places = [];
      given = 0;
      journal = [];
    }

abbrev pub Day : List Step → Type 0
Day ss =
    Sound (fresh_shelf 3) × (set_up_answer new_books (fresh_shelf 3) ≡ Ok tt)
    × Goes (after_set_up new_books (fresh_shelf 3)) (fresh_shelf 3) ss
