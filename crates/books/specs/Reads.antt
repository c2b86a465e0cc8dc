-- The parts of a set-up and of a read. Assumes nothing.
--     shelf_tests m               whether books, if they are long enough, may be set up with the shelf m
--     read_tests b m x o          whether the open transaction o may read card x on the shelf m
--     read_first m o x            its first read of card x
--     read_place b i x r          the books after a first read in place i that answered r
use Rattle.std.specs.Prelude.{ℕ, cond, Some, Ok, Err, Result, ◌==◌, nat_lt, slice_set}
use Rattle.shelf.specs.Meaning.{Meaning, newest}
use Rattle.transactions.specs.declared.reading.Reading.{Reading as Answer}
use Rattle.transactions.specs.declared.refusal.Refusal.{Refusal}
use Rattle.transactions.specs.declared.refusal.Refusal.TheVariants as refusals
use Rattle.transactions.specs.State.{Open, State, with_places}
use Rattle.transactions.specs.Choosing.{newest_fit, other_shelf}
use Rattle.transactions.specs.Calls.{any_written, read_at}
use Rattle.tables.specs.Tables.{at, read_more}

abbrev pub shelf_tests : Meaning → Result (Unit {0}) Refusal
shelf_tests m =
    cond (m.cards == 0) (Err refusals.NoCards)
    (cond (nat_lt m.width m.cards) (Err refusals.Narrow) (cond (any_written m m.cards) (Err refusals.NotFresh) (Ok tt)))

abbrev pub read_tests : State → Meaning → ℕ → Open → Result (Unit {0}) Refusal
read_tests b m x o = cond (nat_lt x b.cards) (cond (other_shelf b m o.reads) (Err refusals.OtherShelf) (Ok tt)) (Err refusals.NoCard)

abbrev pub read_first : Meaning → Open → ℕ → Result Answer Refusal
read_first m o x = read_at m o.drafts x (newest_fit m o.reads x (newest m x))

abbrev pub read_place : State → (i x : ℕ) → Result Answer Refusal → State
read_place b i x (Ok r) = with_places b (slice_set b.places i (Some (read_more (at b.places i) x r.version.0)))
read_place b i x (Err f) = b
