-- What books mean. Which entries are used, and what the others hold, is no part of this. Assumes nothing.
--     state_of b          the meaning of the books b
--     sizes_of z          how many open places, read entries, drafts and journal lines the memory z has; what it holds is no part of this
--     new_state z         books of these sizes before set-up
--     handed s r          what a commit with the slip s answers, by the decision r: at a conflict the slip is spent
--     PlaceToOpen ps r    r is a free place of the open places ps; AllOpen where there is none
--     next_number b       the number after the last one given
--     number_given r      the number of the slip that was given
use Rattle.std.specs.Prelude.{◌≡◌, ℕ, suc, true, false, cond, List, [], Some, None, Ok, Err, Option, Result, ◌==◌, vec_len}
use Rattle.std.specs.List.{slice_get}
use Rattle.stamps.specs.declared.numbers.TxNo.{TxNo}
use Rattle.transactions.specs.declared.refusal.Refusal.{Refusal}
use Rattle.transactions.specs.declared.refusal.Refusal.TheVariants as refusals
use Rattle.transactions.specs.State.{Sizes, Open, State, most_numbers}
use Rattle.transactions.specs.Calls.{all_taken}
use Rattle.books.specs.declared.books.Books.{Books}
use Rattle.transactions.specs.Committing.{ends_by}
use Rattle.books.specs.declared.slip.Slip.{Slip}
use Rattle.books.specs.declared.slip.NotCommitted.{NotCommitted}
use Rattle.books.specs.declared.slip.NotCommitted.TheVariants.{HandedBack, Conflict}
use Rattle.tables.specs.declared.memory.BooksMemory.{BooksMemory}
use Rattle.tables.specs.Tables.{Table, table_of}
use Rattle.journals.specs.Journals.{Log, log_of}

abbrev pub state_with : Table → (width given : ℕ) → Log → State
state_with t width given l =
    record {
      sizes = record { places = t.places_size; reads = t.reads_size; drafts = t.drafts_size; lines = l.size };
      cards = t.cards;
      width = width;
      places = t.list;
      given = given;
      journal = l.lines;
    }

abbrev pub state_of : Books → State
state_of b = state_with (table_of b.table) b.width b.given (log_of b.journal)

abbrev pub sizes_of : BooksMemory → Sizes
sizes_of z = record { places = vec_len z.places; reads = vec_len z.reads; drafts = vec_len z.drafts; lines = vec_len z.lines }

abbrev pub new_state : Sizes → State
new_state z = record { sizes = z; cards = 0; width = 0; places = []; given = 0; journal = [] }

abbrev pub PlaceToOpen : List (Option Open) → Result ℕ Refusal → Type 0
PlaceToOpen ps (Ok i) = (all_taken ps ≡ false) × (slice_get ps i ≡ Some None)
PlaceToOpen ps (Err f) = (all_taken ps ≡ true) × (f ≡ refusals.AllOpen)

abbrev pub next_number : State → Result TxNo Refusal
next_number b = cond (b.given == most_numbers) (Err refusals.NumbersOut) (Ok (record { 0 = suc b.given }))

abbrev pub number_given : Result Slip Refusal → Result ℕ Refusal
number_given (Ok s) = Ok s.number.0
number_given (Err f) = Err f

abbrev pub not_committed : Slip → Refusal → NotCommitted
not_committed s f = cond (ends_by f) Conflict (HandedBack s f)

abbrev pub handed : Slip → Result (Unit {0}) Refusal → Result (Unit {0}) NotCommitted
handed s (Ok u) = Ok u
handed s (Err f) = Err (not_committed s f)
