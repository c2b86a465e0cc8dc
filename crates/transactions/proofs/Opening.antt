-- A watched open gives the next number, and what it leaves is watched, whichever free place is taken.
use Rattle.std.proofs.Common.{◌≡◌, ℕ, suc, ◌<◌, ◌≤◌, Bool, true, false, cond, eqb, ◌⊎◌, List, [], ◌∷◌, Some, None, Ok, Err, Result, sym, refl, ap, ◌∙◌, subst, inl, inr, arith}
use Rattle.std.specs.List.{slice_get}
use Rattle.std.proofs.lemmas.Bool.{cases_Bool, both_ways, eqb-true, eqb-false, eq-eqb, or_left}
use Rattle.shelf.specs.Meaning.{Meaning}
use Rattle.isolation.specs.Account.{Account, Reading, Draft, drafted, after_open}
use Rattle.isolation.specs.AccountHistory.{Has}
use Rattle.isolation.specs.Lawful.{Kept}
use Rattle.isolation.proofs.Lists.{at_one_here, at_one_there}
use Rattle.isolation.proofs.Steps.{open_lawful}
use Rattle.transactions.specs.declared.refusal.Refusal.{Refusal}
use Rattle.transactions.specs.declared.refusal.Refusal.TheVariants as refusals
use Rattle.transactions.specs.State.{Open, State, most_numbers}
use Rattle.transactions.specs.Choosing.{stamps_of}
use Rattle.transactions.specs.Calls.{all_taken, open_answer, opened_at, Opens}
use Rattle.transactions.specs.Law.{OpenLaw}
use Rattle.transactions.specs.Kept.{open_account}
use Rattle.transactions.specs.Watched.{told, Watched}
use Rattle.transactions.proofs.Places.{none_some, some_same, ok_not_err, nth_within}
use Rattle.transactions.proofs.Ties.{Placing, tied_set}
use Rattle.transactions.proofs.Seen.{shelved_same}
use Rattle.transactions.proofs.Journaling.{journal_stays}

-- a number not yet given has read and drafted nothing
nothing_read : (rs : List Reading) → ((x k : ℕ) → Has rs x k → ⊥) → [] ≡ rs
nothing_read [] h = refl
nothing_read (r ∷ rs) h = absurd (h r.card r.version (inl (refl, refl)))

nothing_drafted : (ds : List Draft) → ((x : ℕ) → drafted ds x ≡ true → ⊥) → [] ≡ ds
nothing_drafted [] h = refl
nothing_drafted (d ∷ ds) h =
    absurd (h d.card (or_left (eqb d.card d.card) (drafted ds d.card) (eq-eqb d.card d.card refl)))

unread : (a : Account) → Kept a → [] ≡ a.reads (suc a.given)
unread a k = nothing_read (a.reads (suc a.given)) (λ x n r. omega (arith, k.read_given (suc a.given) x n r))

undrafted : (a : Account) → Kept a → [] ≡ a.drafts (suc a.given)
undrafted a k = nothing_drafted (a.drafts (suc a.given)) (λ x d.
    let (n, r) = k.drafted_read (suc a.given) x d in
    omega (arith, k.read_given (suc a.given) x n r))

module _ (a : Account) (m : Meaning) (b : State) (w : Watched a m b) where
  next_shut : a.opened (suc a.given) ≡ false
  next_shut = go (cases_Bool (a.opened (suc a.given)))
    where
      go : (a.opened (suc a.given) ≡ true) ⊎ (a.opened (suc a.given) ≡ false) → a.opened (suc a.given) ≡ false
      go (inl e) = absurd (omega (arith, w.lawful.kept.open_given (suc a.given) e))
      go (inr e) = e

  newcomer_told : ◌≡◌ {A = Open} (record { number = suc b.given; reads = []; drafts = [] }) (told (after_open a) (suc a.given))
  newcomer_told = λ z. record {
    number = suc (w.given z);
    reads = unread a w.lawful.kept z;
    drafts = undrafted a w.lawful.kept z;
  }

  placing : (i : ℕ) → slice_get b.places i ≡ Some None
      → Placing a (after_open a) b.places (suc a.given) i (Some (record { number = suc b.given; reads = []; drafts = [] }))
  placing i e = record {
    others = record {
      opened = λ u ne. at_one_there a.opened (suc a.given) true u ne;
      reads = λ u ne. refl;
      drafts = λ u ne. refl;
    };
    within = nth_within b.places i None e;
    here = λ o q. absurd (none_some (some_same (sym e ∙ q)));
    there = λ j o q n. absurd (both_ways (a.opened (suc a.given)) next_shut (subst (λ u. a.opened u ≡ true) n (w.tied.is_open j o q)));
    opens = λ o q. (at_one_here a.opened (suc a.given) true (suc a.given) refl, sym (some_same q) ∙ newcomer_told);
    placed = λ q. ap Some newcomer_told;
  }

  opened_left : (i : ℕ) → slice_get b.places i ≡ Some None → a.given < most_numbers → Watched (after_open a) m (opened_at b i)
  opened_left i e lt = record {
    shelved = shelved_same a (after_open a) m (record { listed = refl; newest = refl; writer = refl; value = refl }) w.shelved;
    lawful = open_lawful a (stamps_of m) w.lawful;
    tied = tied_set a (after_open a) b.places (suc a.given) i
        (Some (record { number = suc b.given; reads = []; drafts = [] })) w.tied (placing i e);
    cards = w.cards;
    width = w.width;
    given = ap suc w.given;
    few = lt;
    journaled = journal_stays a (after_open a) b.journal (record { listed = refl; newest = refl; writer = refl; value = refl }) (λ t q. refl)
        w.journaled;
  }

  -- which answer is given
  pub record Answers (r : Result ℕ Refusal) : Type 0 where
    pub granted : (n : ℕ) → r ≡ Ok n → (n ≡ suc b.given) × (b.given ≡ most_numbers → ⊥)
    pub refused : (f : Refusal) → r ≡ Err f → (f ≡ refusals.AllOpen) ⊎ ((f ≡ refusals.NumbersOut) × (b.given ≡ most_numbers))

  answers : (p q : Bool) → q ≡ eqb b.given most_numbers
      → Answers (cond p (Err refusals.AllOpen) (cond q (Err refusals.NumbersOut) (Ok (suc b.given))))
  answers true q e = record { granted = λ n k. absurd (ok_not_err (sym k)); refused = λ f k. inl cc }
  answers false true e = record {
    granted = λ n k. absurd (ok_not_err (sym k));
    refused = λ f k. inr (cc, eqb-true b.given most_numbers (sym e));
  }
  answers false false e = record {
    granted = λ n k. (cc, eqb-false b.given most_numbers (sym e));
    refused = λ f k. absurd (ok_not_err k);
  }

  answered : Answers (open_answer b)
  answered = answers (all_taken b.places) (eqb b.given most_numbers) refl

  pub open_law : OpenLaw a (open_answer b)
  open_law = record {
    next = λ n e.
        let (p, q) = answered.granted n e in
        let z : n ≡ suc a.given = p ∙ ap suc w.given in
        (z, below n z q, subst (λ u. a.opened u ≡ false) (sym z) next_shut);
    refused = λ f e. why f (answered.refused f e);
  }
    where
      below : (n : ℕ) → n ≡ suc a.given → (b.given ≡ most_numbers → ⊥) → n ≤ most_numbers
      below n z q = omega (arith, w.few, w.given)

      why : (f : Refusal) → (f ≡ refusals.AllOpen) ⊎ ((f ≡ refusals.NumbersOut) × (b.given ≡ most_numbers))
          → (f ≡ refusals.AllOpen) ⊎ ((f ≡ refusals.NumbersOut) × (a.given ≡ most_numbers))
      why f (inl e) = inl e
      why f (inr (e, q)) = inr (e, sym w.given ∙ q)

  pub open_watched : (c : State) → Opens b (open_answer b) c → Watched (open_account a (open_answer b)) m c
  open_watched c = go (open_answer b) refl
    where
      go : (r : Result ℕ Refusal) → open_answer b ≡ r → Opens b r c → Watched (open_account a r) m c
      go (Ok n) e (i, p, q) =
          subst (Watched (after_open a) m) (sym q) (opened_left i p (less (answered.granted n e).1))
        where
          less : (b.given ≡ most_numbers → ⊥) → a.given < most_numbers
          less h = omega (arith, w.few, w.given)
      go (Err f) e q = subst (Watched a m) (sym q) w
