-- One run of a day: open takes the first free place.
--     first_free ps               the first free place
--     books_next, shelf_next      what a call leaves in this run
--     answers b m ss              what this run answers to the steps' calls
--     expected ss                 the answers that the steps expect
use Rattle.std.proofs.Common.{ℕ, suc, List, [], ◌∷◌, Some, None, Ok, Err, Option, Result}
use Rattle.shelf.specs.Meaning.{Meaning}
use Rattle.transactions.specs.declared.refusal.Refusal.{Refusal}
use Rattle.transactions.specs.State.{Open, State}
use Rattle.transactions.specs.Calls.{open_answer, opened_at, after_read, after_draft}
use Rattle.transactions.specs.Committing.{commit_books, commit_shelf}
use Rattle.examples.specs.Days.{Call, opens, reads, drafts, commits, stamp, journal, Said, Step, ◌⟼◌, said}

abbrev pub first_free : List (Option Open) → ℕ
first_free [] = 0
first_free (None ∷ ps) = 0
first_free (Some o ∷ ps) = suc (first_free ps)

abbrev pub opened_first : State → Result ℕ Refusal → State
opened_first b (Ok n) = opened_at b (first_free b.places)
opened_first b (Err f) = b

abbrev pub books_next : State → Meaning → Call → State
books_next b m opens = opened_first b (open_answer b)
books_next b m (reads t x) = after_read b m t x
books_next b m (drafts t x v) = after_draft b t x v
books_next b m (commits t) = commit_books b m t
books_next b m (stamp x k) = b
books_next b m journal = b

abbrev pub shelf_next : State → Meaning → Call → Meaning
shelf_next b m opens = m
shelf_next b m (reads t x) = m
shelf_next b m (drafts t x v) = m
shelf_next b m (commits t) = commit_shelf b m t
shelf_next b m (stamp x k) = m
shelf_next b m journal = m

abbrev pub answers : State → Meaning → List Step → List Said
answers b m [] = []
answers b m ((c ⟼ a) ∷ ss) = said b m c ∷ answers (books_next b m c) (shelf_next b m c) ss

abbrev pub expected : List Step → List Said
expected [] = []
expected ((c ⟼ a) ∷ ss) = a ∷ expected ss
