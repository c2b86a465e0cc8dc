-- What a session replies, from what the calls answered.
use Rattle.std.proofs.Common.{◌≡◌, Bool, true, false, cond, List, [], ◌∷◌, ◌++◌, Ok, Err, Result, sym, refl, ap, ◌∙◌, subst}
use Rattle.stamps.specs.declared.numbers.CardNo.{CardNo}
use Rattle.stamps.specs.declared.numbers.TxNo.{TxNo}
use Rattle.stamps.specs.declared.value.Value.{Value}
use Rattle.shelf.specs.Meaning.{Meaning}
use Rattle.transactions.specs.declared.event.Event.TheVariants as events
use Rattle.transactions.specs.declared.reading.Reading.{Reading}
use Rattle.transactions.specs.declared.refusal.Refusal.{Refusal}
use Rattle.transactions.specs.State.{State}
use Rattle.transactions.specs.Calls.{read_answer, after_read, draft_answer, after_draft}
use Rattle.transactions.specs.Committing.{commit_answer, commit_shelf, commit_books, ends_by}
use Rattle.transactions.proofs.Elsewhere.{conflict_ends}
use Rattle.books.specs.declared.slip.Slip.{Slip}
use Rattle.books.specs.declared.slip.NotCommitted.{NotCommitted}
use Rattle.books.specs.declared.slip.NotCommitted.TheVariants.{HandedBack, Conflict}
use Rattle.books.specs.States.{handed}
use Rattle.catalogue.specs.Kept.{decision}
use Rattle.catalogue.proofs.Decided.{decided}
use Rattle.sessions.specs.declared.answer.Answer.{Answer}
use Rattle.sessions.specs.declared.answer.Answer.TheVariants as answers
use Rattle.sessions.specs.declared.command.Command.TheVariants as commands
use Rattle.sessions.specs.Slips.{holds, without, with_back, with_returned, slip_for, call_slips}
use Rattle.sessions.specs.Scripts.{WithSlip}
use Rattle.sessions.specs.Exactly.{Held, Replied}
use Rattle.sessions.proofs.Holding.{none_taken}

abbrev holding : State → List Slip → Held
holding b xs = record { books = b; slips = xs }

in_hand : (xs : List Slip) (t : TxNo) (a : Answer) (P : Type 0) → holds xs t.0 ≡ true → P → WithSlip xs t a P
in_hand xs t a P h p = subst (λ b. cond b P (a ≡ answers.NoSlip)) (sym h) p

wanting : (xs : List Slip) (t : TxNo) (P : Type 0) → holds xs t.0 ≡ false → WithSlip xs t answers.NoSlip P
wanting xs t P h = subst (λ b. cond b P (answers.NoSlip ≡ answers.NoSlip)) (sym h) refl

pub read_replied : (m : Meaning) (b c : State) (xs : List Slip) (t s : TxNo) (x : CardNo) (r : Result Reading Refusal) → holds xs t.0 ≡ true
    → s ≡ t → r ≡ read_answer b m s.0 x.0 → c ≡ after_read b m s.0 x.0
    → Replied m (holding b xs) (commands.Read t x) (answers.Call (events.Read t x r)) m (holding c xs)
read_replied m b c xs t s x r h e f g = record {
  answers = in_hand xs t (answers.Call (events.Read t x r)) _ h (r, refl);
  exact = f ∙ ap (λ (z : TxNo). read_answer b m z.0 x.0) e;
  shelf = refl;
  books = g ∙ ap (λ (z : TxNo). after_read b m z.0 x.0) e;
  slips = refl;
}

pub draft_replied : (m : Meaning) (b c : State) (xs : List Slip) (t s : TxNo) (x : CardNo) (v : Value) (r : Result (Unit {0}) Refusal)
    → holds xs t.0 ≡ true → s ≡ t → r ≡ draft_answer b s.0 x.0 → c ≡ after_draft b s.0 x.0 v
    → Replied m (holding b xs) (commands.Draft t x v) (answers.Call (events.Draft t x v r)) m (holding c xs)
draft_replied m b c xs t s x v r h e f g = record {
  answers = in_hand xs t (answers.Call (events.Draft t x v r)) _ h (r, refl);
  exact = f ∙ ap (λ (z : TxNo). draft_answer b z.0 x.0) e;
  shelf = refl;
  books = g ∙ ap (λ (z : TxNo). after_draft b z.0 x.0 v) e;
  slips = refl;
}

-- a commit or an abandon without its slip
pub no_commit : (m : Meaning) (b : State) (xs ys : List Slip) (t : TxNo) → holds xs t.0 ≡ false → ys ≡ without xs t.0
    → Replied m (holding b xs) (commands.Commit t) answers.NoSlip m (holding b ys)
no_commit m b xs ys t h e =
    record { answers = wanting xs t _ h; exact = tt; shelf = refl; books = refl; slips = e ∙ none_taken xs t.0 h }

pub no_abandon : (m : Meaning) (b : State) (xs ys : List Slip) (t : TxNo) → holds xs t.0 ≡ false → ys ≡ without xs t.0
    → Replied m (holding b xs) (commands.Abandon t) answers.NoSlip m (holding b ys)
no_abandon m b xs ys t h e =
    record { answers = wanting xs t _ h; exact = tt; shelf = refl; books = refl; slips = e ∙ none_taken xs t.0 h }

-- a slip comes back only where the transaction goes on, and it is the one handed in
returned : (xs : List Slip) (t : TxNo) (s : Slip) (r : Result (Unit {0}) Refusal) → s.number ≡ t
    → with_returned (without xs t.0) (handed s r) ≡ call_slips xs (events.Commit t r)
returned xs t s (Ok u) e = refl
returned xs t s (Err f) e =
    go (ends_by f) ∙ ap (λ b. cond b (without xs t.0) (without xs t.0 ++ (slip_for t ∷ []))) (conflict_ends f)
  where
    go : (b : Bool) → with_back (without xs t.0) (cond b Conflict (HandedBack s f))
        ≡ cond b (without xs t.0) (without xs t.0 ++ (slip_for t ∷ []))
    go true = refl
    go false = ap (λ z. without xs t.0 ++ (z ∷ [])) (λ i. record { number = e i })

-- a commit was answered q, of which the session says r
pub commit_replied : (m n : Meaning) (b c : State) (xs ys zs : List Slip) (t : TxNo) (s : Slip) (q : Result (Unit {0}) NotCommitted)
    (r : Result (Unit {0}) Refusal) → holds xs t.0 ≡ true → s.number ≡ t → zs ≡ without xs t.0
    → q ≡ handed s (commit_answer b m s.number.0) → n ≡ commit_shelf b m s.number.0 → c ≡ commit_books b m s.number.0
    → r ≡ decision q → ys ≡ with_returned zs q → Replied m (holding b xs) (commands.Commit t) (answers.Call (events.Commit t r)) n (holding c ys)
commit_replied m n b c xs ys zs t s q r h e w f g k d p =
    let exact : r ≡ commit_answer b m s.number.0 = d ∙ ap decision f ∙ decided s (commit_answer b m s.number.0) in
    record {
      answers = in_hand xs t (answers.Call (events.Commit t r)) _ h (r, refl);
      exact = exact ∙ ap (λ (z : TxNo). commit_answer b m z.0) e;
      shelf = g ∙ ap (λ (z : TxNo). commit_shelf b m z.0) e;
      books = k ∙ ap (λ (z : TxNo). commit_books b m z.0) e;
      slips = p ∙ ap (λ z. with_returned z q) w ∙ ap (with_returned (without xs t.0)) f ∙ returned xs t s (commit_answer b m s.number.0) e
          ∙ ap (λ z. call_slips xs (events.Commit t z)) (sym exact);
    }
