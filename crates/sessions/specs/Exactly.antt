-- What a session does, exactly: each answer is the one that is defined for the shelf and the books as they stand. Assumes nothing.
--     Exact m b a                 the answer a is the one defined on the shelf m, with the books b
--     shelf_after m b a           the shelf that is left then
--     BooksAfter m b a c         c are the books that are left then; which free place an open takes is left open
--     Held                        what a session holds: the books' meaning, and the slips in hand
--     Replied m h c a n k         the command c is answered a exactly, on the shelf m by a session that holds h, and leaves the shelf n and k
--     Ran m₀ b₀ cs rs m h         the commands cs, each answered exactly, as rs, lead from the shelf m₀ and the books b₀ to m and h; every shelf
--                                 on the way keeps the laws of shelves
--     DoneExactly m b cs rs n    they lead from the shelf m and the books b to the shelf n
use Rattle.std.specs.Prelude.{◌≡◌, List, [], ◌∷◌, ◌++◌, vec_items}
use Rattle.std.specs.Option.{option_map}
use Rattle.stamps.specs.Entries.{entries}
use Rattle.shelf.specs.Meaning.{Meaning}
use Rattle.shelf.specs.Questions.{versions_of, stamp_of}
use Rattle.shelf.specs.Sound.{Sound}
use Rattle.transactions.specs.declared.event.Event.{Event}
use Rattle.transactions.specs.declared.event.Event.TheVariants as events
use Rattle.transactions.specs.State.{State}
use Rattle.transactions.specs.Calls.{set_up_answer, after_set_up, open_answer, Opens, read_answer, after_read, draft_answer, after_draft, abandon_answer, after_end, after_close}
use Rattle.transactions.specs.Committing.{commit_answer, commit_shelf, commit_books}
use Rattle.transactions.specs.Run.{number_in}
use Rattle.books.specs.declared.slip.Slip.{Slip}
use Rattle.sessions.specs.declared.answer.Answer.{Answer}
use Rattle.sessions.specs.declared.answer.Answer.TheVariants as answers
use Rattle.sessions.specs.declared.command.Command.{Command}
use Rattle.sessions.specs.Slips.{slips_after}
use Rattle.sessions.specs.Scripts.{AnswersTo}

abbrev pub ExactCall : Meaning → State → Event → Type 0
ExactCall m b (events.Open r) = number_in r ≡ open_answer b
ExactCall m b (events.Read t x r) = r ≡ read_answer b m t.0 x.0
ExactCall m b (events.Draft t x v r) = r ≡ draft_answer b t.0 x.0
ExactCall m b (events.Commit t r) = r ≡ commit_answer b m t.0
ExactCall m b (events.Abandon t r) = r ≡ abandon_answer b t.0
ExactCall m b events.Close = Unit {0}

abbrev pub Exact : Meaning → State → Answer → Type 0
Exact m b (answers.SetUp r) = r ≡ set_up_answer b m
Exact m b (answers.Call e) = ExactCall m b e
Exact m b answers.NoSlip = Unit {0}
Exact m b (answers.Versions x r) = r ≡ versions_of m x.0
Exact m b (answers.Stamp x k r) = option_map entries r ≡ stamp_of m x.0 k.0
Exact m b (answers.Journal ls) = vec_items ls ≡ b.journal

abbrev pub shelf_call : Meaning → State → Event → Meaning
shelf_call m b (events.Open r) = m
shelf_call m b (events.Read t x r) = m
shelf_call m b (events.Draft t x v r) = m
shelf_call m b (events.Commit t r) = commit_shelf b m t.0
shelf_call m b (events.Abandon t r) = m
shelf_call m b events.Close = m

abbrev pub shelf_after : Meaning → State → Answer → Meaning
shelf_after m b (answers.SetUp r) = m
shelf_after m b (answers.Call e) = shelf_call m b e
shelf_after m b answers.NoSlip = m
shelf_after m b (answers.Versions x r) = m
shelf_after m b (answers.Stamp x k r) = m
shelf_after m b (answers.Journal ls) = m

abbrev pub BooksCall : Meaning → State → Event → State → Type 0
BooksCall m b (events.Open r) c = Opens b (open_answer b) c
BooksCall m b (events.Read t x r) c = c ≡ after_read b m t.0 x.0
BooksCall m b (events.Draft t x v r) c = c ≡ after_draft b t.0 x.0 v
BooksCall m b (events.Commit t r) c = c ≡ commit_books b m t.0
BooksCall m b (events.Abandon t r) c = c ≡ after_end b t.0
BooksCall m b events.Close c = c ≡ after_close b

abbrev pub BooksAfter : Meaning → State → Answer → State → Type 0
BooksAfter m b (answers.SetUp r) c = c ≡ after_set_up b m
BooksAfter m b (answers.Call e) c = BooksCall m b e c
BooksAfter m b answers.NoSlip c = c ≡ b
BooksAfter m b (answers.Versions x r) c = c ≡ b
BooksAfter m b (answers.Stamp x k r) c = c ≡ b
BooksAfter m b (answers.Journal ls) c = c ≡ b

pub record Held : Type 0 where
  pub books : State
  pub slips : List Slip

pub record Replied (m : Meaning) (h : Held) (c : Command) (a : Answer) (n : Meaning) (k : Held) : Type 0 where
  pub answers : AnswersTo h.slips c a
  pub exact : Exact m h.books a
  pub shelf : n ≡ shelf_after m h.books a
  pub books : BooksAfter m h.books a k.books
  pub slips : k.slips ≡ slips_after h.slips a

pub data Ran (m₀ : Meaning) (b₀ : State) : List Command → List Answer → Meaning → Held → Type 0 where
  begun : Ran m₀ b₀ [] [] m₀ (record { books = b₀; slips = [] })
  goes_on : {cs : List Command} {rs : List Answer} {m : Meaning} {h : Held} → Ran m₀ b₀ cs rs m h → Sound m
      → (c : Command) (a : Answer) (n : Meaning) (k : Held) → Replied m h c a n k → Ran m₀ b₀ (cs ++ (c ∷ [])) (rs ++ (a ∷ [])) n k

pub record DoneExactly (m : Meaning) (b : State) (cs : List Command) (rs : List Answer) (n : Meaning) : Type 0 where
  pub held : Held
  pub ran : Ran m b cs rs n held
