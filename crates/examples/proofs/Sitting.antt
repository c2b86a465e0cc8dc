-- Who is open after a call, from who was open before it, in whichever places they are.
--     refilled ps n y             the places with y in that of transaction n
--     Refilled g ps n y qs        what that comes to: who is open, how many places are free, and that the places stay tidy
--     Taken g ps o qs             the same of the places with the newly open o in a free one
use Rattle.std.proofs.Common.{◌≡◌, ℕ, suc, ◌+◌, ◌<◌, ◌≤◌, true, false, cond, eqb, ◌⊎◌, List, set, Some, None, Option, sym, refl, ap, ◌∙◌, subst, inl, inr, arith}
use Rattle.std.specs.List.{slice_get}
use Rattle.std.proofs.lemmas.Bool.{eqb-true, eq-eqb, ne_eqb, cases_eq, cond-true, cond-false, false≢true}
use Rattle.transactions.specs.State.{Open, last_at, numbered, at_place, standing, placed}
use Rattle.examples.proofs.Places.{one, tally, nth_set, nth_other, tally_set, last_none, last_new, last_same, last_passes, sitting, vacant, spare, Tidy, Ours}

abbrev pub refilled : List (Option Open) → ℕ → Option Open → List (Option Open)
refilled ps n y = placed ps (last_at (numbered n) ps) y

abbrev pub if_sitting : Option Open → Option Open → Option Open
if_sitting None y = None
if_sitting (Some o) y = y

abbrev pub gained : Option Open → Option Open → ℕ
gained None y = 0
gained (Some o) y = one (vacant y)

pub record Refilled (g : ℕ) (ps : List (Option Open)) (n : ℕ) (y : Option Open) (qs : List (Option Open)) : Type 0 where
  pub view : (k : ℕ) → sitting qs k ≡ cond (eqb k n) (if_sitting (sitting ps n) y) (sitting ps k)
  pub free : spare qs ≡ spare ps + gained (sitting ps n) y
  pub tidy : Tidy g qs

pub record Taken (g : ℕ) (ps : List (Option Open)) (o : Open) (qs : List (Option Open)) : Type 0 where
  pub view : (k : ℕ) → sitting qs k ≡ cond (eqb k o.number) (Some o) (sitting ps k)
  pub free : suc (spare qs) ≡ spare ps
  pub tidy : Tidy g qs

by_number : (k n : ℕ) (v a b : Option Open) → (k ≡ n → v ≡ a) → ((k ≡ n → ⊥) → v ≡ b) → v ≡ cond (eqb k n) a b
by_number k n v a b f g = go (cases_eq k n)
  where
    go : (k ≡ n) ⊎ (k ≡ n → ⊥) → v ≡ cond (eqb k n) a b
    go (inl e) = f e ∙ sym (cond-true (eqb k n) a b (eq-eqb k n e))
    go (inr d) = g d ∙ sym (cond-false (eqb k n) a b (ne_eqb k n d))

-- a place of another transaction, or a free one
not_numbered : (n k : ℕ) (y : Option Open) → Ours n y → (k ≡ n → ⊥) → numbered k y ≡ false
not_numbered n k None h d = refl
not_numbered n k (Some o) h d = ne_eqb o.number k (λ e. d (sym e ∙ h))

module _ (ps : List (Option Open)) (i : ℕ) (x y : Option Open) (at : slice_get ps i ≡ Some x) where
  -- a transaction whose place is another is open as before
  sitting_other : (k : ℕ) → numbered k x ≡ false → numbered k y ≡ false → sitting (set ps i y) k ≡ sitting ps k
  sitting_other k e f =
      ap (at_place (set ps i y)) (last_same (numbered k) ps i x y 0 None at (e ∙ sym f)) ∙ go (last_at (numbered k) ps) refl
    where
      go : (l : Option ℕ) → last_at (numbered k) ps ≡ l → at_place (set ps i y) l ≡ at_place ps l
      go None h = refl
      go (Some j) h =
          let (z, s, t) = last_passes (numbered k) ps j h in
          ap standing (nth_other ps i j y
          (λ q. let w : x ≡ z = cc (subst (λ j. slice_get ps j ≡ Some z) (sym q) s) in false≢true (sym e ∙ ap (numbered k) w ∙ t)))

  tidy_set : (g : ℕ) → Tidy g ps → ((k : ℕ) → one (numbered k y) ≤ one (numbered k x)) → Tidy g (set ps i y)
  tidy_set g tidy less =
      record {
        once = λ k. omega (arith, tally_set (numbered k) ps i x y at, less k, tidy.once k);
        none = λ k h. omega (arith, tally_set (numbered k) ps i x y at, less k, tidy.none k h);
      }

module _ (g : ℕ) (ps : List (Option Open)) (tidy : Tidy g ps) where
  module _ (n i : ℕ) (o : Open) (at : slice_get ps i ≡ Some (Some o)) (its : o.number ≡ n) (last : last_at (numbered n) ps ≡ Some i) where
    here : (y : Option Open) → Ours n y → sitting (set ps i y) n ≡ y
    here (Some q) h =
        ap (at_place (set ps i (Some q)))
        (last_same (numbered n) ps i (Some o) (Some q) 0 None at (eq-eqb o.number n its ∙ sym (eq-eqb q.number n h)) ∙ last)
        ∙ ap standing (nth_set ps i (Some o) (Some q) at)
    here None h =
        let t : one (numbered n (Some o)) ≡ 1 = ap one (eq-eqb o.number n its) in
        ap (at_place (set ps i None))
        (last_none (numbered n) (set ps i None) 0 None (omega (arith, tally_set (numbered n) ps i (Some o) None at, tidy.once n)))

    no_more : (y : Option Open) → Ours n y → (k : ℕ) → one (numbered k y) ≤ one (numbered k (Some o))
    no_more None h k = omega arith
    no_more (Some q) h k = let e : one (eqb q.number k) ≡ one (eqb o.number k) = cc in omega arith

    refilled_there : (y : Option Open) → Ours n y → sitting ps n ≡ Some o → Refilled g ps n y (set ps i y)
    refilled_there y h s =
        record {
          view = λ k. by_number k n (sitting (set ps i y) k) (if_sitting (sitting ps n) y) (sitting ps k)
              (λ e. subst (λ k. sitting (set ps i y) k ≡ if_sitting (sitting ps n) y) (sym e)
              (subst (λ p. sitting (set ps i y) n ≡ if_sitting p y) (sym s) (here y h)))
              (λ d. sitting_other ps i (Some o) y at k (not_numbered n k (Some o) its d) (not_numbered n k y h d));
          free = subst (λ p. spare (set ps i y) ≡ spare ps + gained p y) (sym s) (omega (arith, tally_set vacant ps i (Some o) y at));
          tidy = tidy_set ps i (Some o) y at g tidy (no_more y h);
        }

  refilled_nowhere : (n : ℕ) (y : Option Open) → sitting ps n ≡ None → Refilled g ps n y ps
  refilled_nowhere n y s =
      record {
        view = λ k. by_number k n (sitting ps k) (if_sitting (sitting ps n) y) (sitting ps k)
            (λ e. subst (λ k. sitting ps k ≡ if_sitting (sitting ps n) y) (sym e)
            (subst (λ p. p ≡ if_sitting p y) (sym s) refl))
            (λ d. refl);
        free = subst (λ p. spare ps ≡ spare ps + gained p y) (sym s) (omega arith);
        tidy = tidy;
      }

  pub refilling : (n : ℕ) (y : Option Open) → Ours n y → Refilled g ps n y (refilled ps n y)
  refilling n y h = go (last_at (numbered n) ps) refl
    where
      there : (i : ℕ) (x : Option Open) → slice_get ps i ≡ Some x → numbered n x ≡ true → last_at (numbered n) ps ≡ Some i
          → Refilled g ps n y (set ps i y)
      there i None at t e = absurd (false≢true t)
      there i (Some o) at t e = refilled_there n i o at (eqb-true o.number n t) e y h (ap (at_place ps) e ∙ ap standing at)

      go : (l : Option ℕ) → last_at (numbered n) ps ≡ l → Refilled g ps n y (placed ps l y)
      go None e = refilled_nowhere n y (ap (at_place ps) e)
      go (Some i) e = let (x, at, t) = last_passes (numbered n) ps i e in there i x at t e

  -- a number that is not yet given is taken in a free place
  pub taking : (i : ℕ) (o : Open) → slice_get ps i ≡ Some None → o.number ≡ suc g → Taken (suc g) ps o (set ps i (Some o))
  taking i o at its =
      record {
        view = λ k. by_number k o.number (sitting (set ps i (Some o)) k) (Some o) (sitting ps k) (new k)
            (λ d. sitting_other ps i None (Some o) at k refl (ne_eqb o.number k (λ e. d (sym e))));
        free = omega (arith, tally_set vacant ps i None (Some o) at);
        tidy = record { once = λ k. once k (cases_eq o.number k); none = none };
      }
    where
      new : (k : ℕ) → k ≡ o.number → sitting (set ps i (Some o)) k ≡ Some o
      new k e =
          ap (at_place (set ps i (Some o)))
          (last_new (numbered k) ps i None (Some o) 0 None at (tidy.none k (omega arith)) (eq-eqb o.number k (sym e)))
          ∙ ap standing (subst (λ j. slice_get (set ps i (Some o)) j ≡ Some (Some o)) (omega arith) (nth_set ps i None (Some o) at))

      once : (k : ℕ) → (o.number ≡ k) ⊎ (o.number ≡ k → ⊥) → tally (numbered k) (set ps i (Some o)) ≤ 1
      once k (inl e) =
          let t : one (eqb o.number k) ≡ 1 = ap one (eq-eqb o.number k e) in
          omega (arith, tally_set (numbered k) ps i None (Some o) at, tidy.none k (omega arith))
      once k (inr d) =
          let t : one (eqb o.number k) ≡ 0 = ap one (ne_eqb o.number k d) in
          omega (arith, tally_set (numbered k) ps i None (Some o) at, tidy.once k)

      none : (k : ℕ) → suc g < k → tally (numbered k) (set ps i (Some o)) ≡ 0
      none k h =
          let t : one (eqb o.number k) ≡ 0 = ap one (ne_eqb o.number k (λ e. omega arith)) in
          omega (arith, tally_set (numbered k) ps i None (Some o) at, tidy.none k (omega arith))

-- whoever is found under a number has it
pub ours_found : (ps : List (Option Open)) (n : ℕ) → Ours n (sitting ps n)
ours_found ps n = go (last_at (numbered n) ps) refl
  where
    its : (x : Option Open) → numbered n x ≡ true → Ours n x
    its None t = tt
    its (Some o) t = eqb-true o.number n t

    go : (l : Option ℕ) → last_at (numbered n) ps ≡ l → Ours n (at_place ps l)
    go None e = tt
    go (Some i) e = let (x, at, t) = last_passes (numbered n) ps i e in subst (λ p. Ours n (standing p)) (sym at) (its x t)
