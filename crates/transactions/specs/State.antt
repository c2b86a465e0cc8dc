-- What the books mean. What unused entries hold is no part of this. Assumes nothing.
--     Sizes                       how many open places, read entries, drafts and journal lines the books' memory has
--     Open                        an open transaction: its number, and what it read and drafted, in the order of the calls
--     State                       the memory's sizes; cards and width at set-up; the open places, each free or with its transaction; the
--                                 numbers given; the journal's lines
--     most_open, most_drafts, most_numbers        how many open places are used, cards one transaction drafts, numbers are given, at the most
--     last_at p xs                the place of the last element that passes the test p
--     numbered n o                an open place is that of transaction n
--     held b n                    the open transaction with number n
--     with_places b ps            b with other open places
--     put_back b n o              b with o in the place of transaction n
--     room b                      how many more lines the journal takes
use Rattle.std.specs.Prelude.{ℕ, suc, ◌-◌, Bool, false, cond, List, [], ◌∷◌, length, Some, None, Option, ◌==◌, slice_set}
use Rattle.std.specs.List.{slice_get}
use Rattle.records.specs.declared.line.Line.{Line}
use Rattle.isolation.specs.Account.{Reading, Draft}

pub record Sizes : Type 0 where
  pub places : ℕ
  pub reads : ℕ
  pub drafts : ℕ
  pub lines : ℕ

pub record Open : Type 0 where
  pub number : ℕ
  pub reads : List Reading
  pub drafts : List Draft

pub record State : Type 0 where
  pub sizes : Sizes
  pub cards : ℕ
  pub width : ℕ
  pub places : List (Option Open)
  pub given : ℕ
  pub journal : List Line

abbrev pub most_open : ℕ
most_open = 16

abbrev pub most_drafts : ℕ
most_drafts = 32

abbrev pub most_numbers : ℕ
most_numbers = 1000000

abbrev pub last_from : {X : Type 0} → (X → Bool) → List X → ℕ → Option ℕ → Option ℕ
last_from p [] i found = found
last_from p (x ∷ xs) i found = last_from p xs (suc i) (cond (p x) (Some i) found)

abbrev pub last_at : {X : Type 0} → (X → Bool) → List X → Option ℕ
last_at p xs = last_from p xs 0 None

abbrev pub numbered : ℕ → Option Open → Bool
numbered n None = false
numbered n (Some o) = o.number == n

-- what stands at a place
abbrev pub standing : {X : Type 0} → Option (Option X) → Option X
standing None = None
standing (Some o) = o

abbrev pub at_place : List (Option Open) → Option ℕ → Option Open
at_place ps None = None
at_place ps (Some i) = standing (slice_get ps i)

abbrev pub held : State → ℕ → Option Open
held b n = at_place b.places (last_at (numbered n) b.places)

abbrev pub with_places : State → List (Option Open) → State
with_places b ps = record { sizes = b.sizes; cards = b.cards; width = b.width; places = ps; given = b.given; journal = b.journal }

abbrev pub placed : List (Option Open) → Option ℕ → Option Open → List (Option Open)
placed ps None o = ps
placed ps (Some i) o = slice_set ps i o

abbrev pub put_back : State → ℕ → Option Open → State
put_back b n o = with_places b (placed b.places (last_at (numbered n) b.places) o)

abbrev pub room : State → ℕ
room b = b.sizes.lines - length b.journal
