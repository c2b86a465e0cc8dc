-- What the calls answer, case by case. Assumes nothing.
use Rattle.std.proofs.Common.{◌≡◌, ℕ, zero, suc, ◌<◌, ◌≤◌, Bool, true, false, cond, ◌||◌, ltb, List, [], ◌∷◌, length, Some, None, Ok, Err, Option, MatchOption, Result, sym, refl, subst, arith}
use Rattle.std.specs.List.{slice_get}
use Rattle.std.specs.Option.{ok_or}
use Rattle.std.proofs.lemmas.Bool.{lt-ltb, le-ltb, eq-eqb, ne_eqb, ltb-true}
use Rattle.isolation.specs.Account.{has_read, drafted}
use Rattle.transactions.specs.declared.refusal.Refusal.{Refusal}
use Rattle.transactions.specs.declared.refusal.Refusal.TheVariants as refusals
use Rattle.transactions.specs.State.{Open, State, most_drafts, most_numbers}
use Rattle.transactions.specs.Calls.{all_taken, open_answer, draft_by}
use Rattle.books.specs.States.{PlaceToOpen}

abbrev granted : Result (Unit {0}) Refusal
granted = Ok tt

pub not_all_taken : (ps : List (Option Open)) (i : ℕ) → slice_get ps i ≡ Some None → all_taken ps ≡ false
not_all_taken [] i e = let z : ◌≡◌ {A = ℕ} 0 1 = cc in absurd (omega arith)
not_all_taken (None ∷ ps) i e = refl
not_all_taken (Some o ∷ ps) zero e = let z : ◌≡◌ {A = ℕ} 0 1 = cc in absurd (omega arith)
not_all_taken (Some o ∷ ps) (suc i) e = not_all_taken ps i e

module _ (b : State) (x : ℕ) (o : Open) where
  pub draft_unread : x < b.cards → has_read o.reads x ≡ false → draft_by b x (Some o) ≡ Err refusals.Unread
  draft_unread low out = rw (lt-ltb x b.cards low, out)

  pub draft_out : x < b.cards → has_read o.reads x ≡ true → drafted o.drafts x ≡ false → most_drafts ≤ length o.drafts →
      draft_by b x (Some o) ≡ Err refusals.DraftsOut
  draft_out low read new full = rw (lt-ltb x b.cards low, read, new, le-ltb (length o.drafts) most_drafts full)

  pub draft_granted : x < b.cards → has_read o.reads x ≡ true → (drafted o.drafts x || ltb (length o.drafts) most_drafts) ≡ true →
      draft_by b x (Some o) ≡ Ok tt
  draft_granted low read few = rw (lt-ltb x b.cards low, read, few)

  -- a draft that is granted passed every test
  pub draft_passed : draft_by b x (Some o) ≡ Ok tt →
      (x < b.cards) × (has_read o.reads x ≡ true) × ((drafted o.drafts x || ltb (length o.drafts) most_drafts) ≡ true)
  draft_passed e = go (ltb x b.cards) refl (has_read o.reads x) refl (drafted o.drafts x || ltb (length o.drafts) most_drafts) refl e
    where
      go : (p : Bool) → ltb x b.cards ≡ p → (q : Bool) → has_read o.reads x ≡ q → (r : Bool) → (drafted o.drafts x || ltb (length o.drafts) most_drafts) ≡ r →
          cond p (cond q (cond r granted (Err refusals.DraftsOut)) (Err refusals.Unread)) (Err refusals.NoCard) ≡ granted →
          (x < b.cards) × (has_read o.reads x ≡ true) × ((drafted o.drafts x || ltb (length o.drafts) most_drafts) ≡ true)
      go true low true read true few e = (ltb-true x b.cards low, read, few)
      go true low true read false few e = let z : ◌≡◌ {A = ℕ} 0 1 = cc in absurd (omega arith)
      go true low false read r few e = let z : ◌≡◌ {A = ℕ} 0 1 = cc in absurd (omega arith)
      go false low q read r few e = let z : ◌≡◌ {A = ℕ} 0 1 = cc in absurd (omega arith)

-- what `?` took out, or passed on
pub found_there : (o : Option ℕ) (i : ℕ) → ok_or {E = Refusal} o refusals.NotOpen ≡ Ok i → o ≡ Some i
found_there None i e = let z : ◌≡◌ {A = ℕ} 0 1 = cc in absurd (omega arith)
found_there (Some j) i e = cc

-- the place that an open takes, by the free place that was found
pub place_to_open : (ps : List (Option Open)) (o : Option ℕ) (r : Result ℕ Refusal) → r ≡ ok_or o refusals.AllOpen →
    MatchOption o (all_taken ps ≡ true) (λ i. slice_get ps i ≡ Some None) → PlaceToOpen ps r
place_to_open ps o r e told = subst (PlaceToOpen ps) (sym e) (go o told)
  where
    go : (o : Option ℕ) → MatchOption o (all_taken ps ≡ true) (λ i. slice_get ps i ≡ Some None) → PlaceToOpen ps (ok_or o refusals.AllOpen)
    go None told = (told, refl)
    go (Some i) told = (not_all_taken ps i told, told)
