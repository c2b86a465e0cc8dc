-- What set-up, open, read, draft, abandon and close answer and leave. Assumes nothing.
--     set_up_answer b m, after_set_up b m         set-up on the shelf m
--     open_answer b, Opens b r b'                 open; which of the free places it takes is left open
--     read_answer b m n x, after_read b m n x     a read of card x by transaction n on the shelf m
--     draft_answer b n x, after_draft b n x v     a draft of v for card x by transaction n
--     abandon_answer b n, after_end b n           the end of transaction n without a commit
--     after_close b                               the end of all open transactions
use Rattle.std.specs.Prelude.{◌≡◌, ℕ, zero, suc, ◌*◌, min, Bool, true, false, cond, ◌&&◌, ◌||◌, List, [], ◌∷◌, ◌++◌, length, replicate, Some, None, Ok, Err, Option, Result, ◌==◌, nat_le, nat_lt, slice_set}
use Rattle.std.specs.List.{slice_get}
use Rattle.stamps.specs.declared.value.Value.{Value}
use Rattle.shelf.specs.Meaning.{Meaning, newest}
use Rattle.isolation.specs.Account.{Reading, Draft, has_read, drafted, draft_of, with_draft}
use Rattle.transactions.specs.declared.reading.Reading.{Reading as Answer}
use Rattle.transactions.specs.declared.refusal.Refusal.{Refusal}
use Rattle.transactions.specs.declared.refusal.Refusal.TheVariants as refusals
use Rattle.transactions.specs.State.{Sizes, Open, State, most_open, most_drafts, most_numbers, held, put_back}
use Rattle.transactions.specs.Choosing.{value_at, chosen, other_shelf}

-- one of the first n cards has a version above 0
abbrev pub any_written : Meaning → ℕ → Bool
any_written m zero = false
any_written m (suc n) = any_written m n || nat_lt 0 (newest m n)

-- the open places that are used
abbrev pub places_used : Sizes → ℕ
places_used z = min most_open z.places

-- an open place, and for each place used one read entry for each card and 32 drafts
abbrev pub long_enough : Sizes → ℕ → Bool
long_enough z cards =
    nat_lt 0 z.places && (nat_le (places_used z * cards) z.reads && nat_le (places_used z * most_drafts) z.drafts)

abbrev pub set_up_answer : State → Meaning → Result (Unit {0}) Refusal
set_up_answer b m =
    cond (m.cards == 0) (Err refusals.NoCards)
    (cond (nat_lt m.width m.cards) (Err refusals.Narrow)
    (cond (any_written m m.cards) (Err refusals.NotFresh)
    (cond (long_enough b.sizes m.cards) (Ok tt) (Err refusals.ShortBooks))))

-- the books emptied: every place free, no number given, no line in the journal
abbrev pub emptied : State → Meaning → State
emptied b m =
    record {
      sizes = b.sizes;
      cards = m.cards;
      width = m.width;
      places = replicate (places_used b.sizes) None;
      given = 0;
      journal = [];
    }

abbrev pub if_granted : {T : Type 0} → Result T Refusal → State → State → State
if_granted (Ok x) after before = after
if_granted (Err f) after before = before

abbrev pub after_set_up : State → Meaning → State
after_set_up b m = if_granted (set_up_answer b m) (emptied b m) b

abbrev pub all_taken : List (Option Open) → Bool
all_taken [] = true
all_taken (None ∷ ps) = false
all_taken (Some o ∷ ps) = all_taken ps

abbrev pub open_answer : State → Result ℕ Refusal
open_answer b =
    cond (all_taken b.places) (Err refusals.AllOpen)
    (cond (b.given == most_numbers) (Err refusals.NumbersOut) (Ok (suc b.given)))

-- the next number, in place i
abbrev pub opened_at : State → ℕ → State
opened_at b i =
    record {
      sizes = b.sizes;
      cards = b.cards;
      width = b.width;
      places = slice_set b.places i (Some (record { number = suc b.given; reads = []; drafts = [] }));
      given = suc b.given;
      journal = b.journal;
    }

-- some free place is taken where a number is given; nothing changes where none is
abbrev pub Opens : State → Result ℕ Refusal → State → Type 0
Opens b (Ok n) b' = (i : ℕ) × (slice_get b.places i ≡ Some None) × (b' ≡ opened_at b i)
Opens b (Err f) b' = b' ≡ b

abbrev pub read_at : Meaning → List Draft → ℕ → Option ℕ → Result Answer Refusal
read_at m ds x None = Err refusals.OtherShelf
read_at m ds x (Some k) = Ok (record { version = record { 0 = k }; value = draft_of ds x (value_at m x k) })

abbrev pub read_by : State → Meaning → ℕ → Option Open → Result Answer Refusal
read_by b m x None = Err refusals.NotOpen
read_by b m x (Some o) =
    cond (nat_lt x b.cards)
    (cond (other_shelf b m o.reads) (Err refusals.OtherShelf) (read_at m o.drafts x (chosen m o.reads x)))
    (Err refusals.NoCard)

abbrev pub read_answer : State → Meaning → (n x : ℕ) → Result Answer Refusal
read_answer b m n x = read_by b m x (held b n)

-- a first read enters the version
abbrev pub enter : List Reading → (x k : ℕ) → List Reading
enter rs x k = cond (has_read rs x) rs (rs ++ (record { card = x; version = k } ∷ []))

abbrev pub with_read : Option Open → (x k : ℕ) → Option Open
with_read None x k = None
with_read (Some o) x k = Some (record { number = o.number; reads = enter o.reads x k; drafts = o.drafts })

abbrev pub read_entered : State → (n x : ℕ) → Result Answer Refusal → State
read_entered b n x (Ok r) = put_back b n (with_read (held b n) x r.version.0)
read_entered b n x (Err f) = b

abbrev pub after_read : State → Meaning → (n x : ℕ) → State
after_read b m n x = read_entered b n x (read_answer b m n x)

abbrev pub draft_by : State → ℕ → Option Open → Result (Unit {0}) Refusal
draft_by b x None = Err refusals.NotOpen
draft_by b x (Some o) =
    cond (nat_lt x b.cards)
    (cond (has_read o.reads x)
    (cond (drafted o.drafts x || nat_lt (length o.drafts) most_drafts) (Ok tt) (Err refusals.DraftsOut))
    (Err refusals.Unread))
    (Err refusals.NoCard)

abbrev pub draft_answer : State → (n x : ℕ) → Result (Unit {0}) Refusal
draft_answer b n x = draft_by b x (held b n)

abbrev pub with_words : Option Open → ℕ → Value → Option Open
with_words None x v = None
with_words (Some o) x v = Some (record { number = o.number; reads = o.reads; drafts = with_draft o.drafts x v })

abbrev pub after_draft : State → (n x : ℕ) → Value → State
after_draft b n x v = if_granted (draft_answer b n x) (put_back b n (with_words (held b n) x v)) b

abbrev pub if_held : Option Open → Result (Unit {0}) Refusal
if_held None = Err refusals.NotOpen
if_held (Some o) = Ok tt

abbrev pub abandon_answer : State → ℕ → Result (Unit {0}) Refusal
abandon_answer b n = if_held (held b n)

-- the place of transaction n is free again
abbrev pub after_end : State → ℕ → State
after_end b n = put_back b n None

abbrev pub after_close : State → State
after_close b =
    record {
      sizes = b.sizes;
      cards = b.cards;
      width = b.width;
      places = replicate (length b.places) None;
      given = b.given;
      journal = b.journal;
    }
