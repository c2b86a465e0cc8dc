-- The open places: what a call does to who is open, in whichever places they are.
--     tally p xs                  how many elements pass the test p
--     sitting ps n                the open transaction with number n
--     spare ps                    how many places are free
--     Tidy g ps                   each number is open once at most, and none above g is
--     Ours n o                    a place that is free, or that of transaction n
use Rattle.std.proofs.Common.{◌≡◌, ℕ, zero, suc, ◌+◌, ◌<◌, ◌≤◌, Bool, true, false, cond, List, [], ◌∷◌, set, Some, None, Option, refl, ap, ◌∙◌, subst, arith}
use Rattle.std.specs.List.{slice_get}
use Rattle.transactions.specs.State.{Open, last_from, last_at, numbered, at_place}

abbrev pub one : Bool → ℕ
one true = 1
one false = 0

module _ {X : Type 0} where
  abbrev pub tally : (X → Bool) → List X → ℕ
  tally p [] = 0
  tally p (x ∷ xs) = one (p x) + tally p xs

  no_place : {P : Type 0} (i : ℕ) (x : X) → slice_get {X = X} [] i ≡ Some x → P
  no_place i x e = let z : ◌≡◌ {A = ℕ} 0 1 = cc in absurd (omega arith)

  pub nth_set : (xs : List X) (i : ℕ) (x y : X) → slice_get xs i ≡ Some x → slice_get (set xs i y) i ≡ Some y
  nth_set [] i x y e = no_place i x e
  nth_set (z ∷ xs) zero x y e = refl
  nth_set (z ∷ xs) (suc i) x y e = nth_set xs i x y e

  pub nth_other : (xs : List X) (i j : ℕ) (y : X) → (i ≡ j → ⊥) → slice_get (set xs i y) j ≡ slice_get xs j
  nth_other [] i j y n = refl
  nth_other (z ∷ xs) zero zero y n = absurd (n refl)
  nth_other (z ∷ xs) zero (suc j) y n = refl
  nth_other (z ∷ xs) (suc i) zero y n = refl
  nth_other (z ∷ xs) (suc i) (suc j) y n = nth_other xs i j y (λ e. n (ap suc e))

  module _ (p : X → Bool) where
    pub tally_set : (xs : List X) (i : ℕ) (x y : X) → slice_get xs i ≡ Some x → tally p (set xs i y) + one (p x) ≡ tally p xs + one (p y)
    tally_set [] i x y e = no_place i x e
    tally_set (z ∷ xs) zero x y e = let q : one (p z) ≡ one (p x) = cc in omega arith
    tally_set (z ∷ xs) (suc i) x y e = omega (arith, tally_set xs i x y e)

    -- none passes
    none_head : (b : Bool) (n : ℕ) → one b + n ≡ 0 → (b ≡ false) × (n ≡ 0)
    none_head true n e = absurd (omega arith)
    none_head false n e = (refl, omega arith)

    pub last_none : (xs : List X) (k : ℕ) (found : Option ℕ) → tally p xs ≡ 0 → last_from p xs k found ≡ found
    last_none [] k found e = refl
    last_none (x ∷ xs) k found e =
        let (f, g) = none_head (p x) (tally p xs) e in
        ap (λ b. last_from p xs (suc k) (cond b (Some k) found)) f ∙ last_none xs (suc k) found g

    pub last_new : (xs : List X) (i : ℕ) (x y : X) (k : ℕ) (found : Option ℕ)
        → slice_get xs i ≡ Some x → tally p xs ≡ 0 → p y ≡ true → last_from p (set xs i y) k found ≡ Some (k + i)
    last_new [] i x y k found e z t = no_place i x e
    last_new (w ∷ xs) zero x y k found e z t =
        let (f, g) = none_head (p w) (tally p xs) z in
        ap (λ b. last_from p xs (suc k) (cond b (Some k) found)) t ∙ last_none xs (suc k) (Some k) g ∙ ap Some (omega arith)
    last_new (w ∷ xs) (suc i) x y k found e z t =
        let (f, g) = none_head (p w) (tally p xs) z in
        last_new xs i x y (suc k) (cond (p w) (Some k) found) e g t ∙ ap Some (omega arith)

    pub last_same : (xs : List X) (i : ℕ) (x y : X) (k : ℕ) (found : Option ℕ)
        → slice_get xs i ≡ Some x → p x ≡ p y → last_from p (set xs i y) k found ≡ last_from p xs k found
    last_same [] i x y k found e s = refl
    last_same (z ∷ xs) zero x y k found e s =
        let q : p y ≡ p z = cc in ap (λ b. last_from p xs (suc k) (cond b (Some k) found)) q
    last_same (z ∷ xs) (suc i) x y k found e s = last_same xs i x y (suc k) (cond (p z) (Some k) found) e s

    last_in : (xs : List X) (k : ℕ) (found : Option ℕ) (Q : ℕ → Type 0)
        → ((i : ℕ) (x : X) → slice_get xs i ≡ Some x → p x ≡ true → Q (k + i)) → ((j : ℕ) → found ≡ Some j → Q j)
        → (j : ℕ) → last_from p xs k found ≡ Some j → Q j
    last_in [] k found Q f g j e = g j e
    last_in (x ∷ xs) k found Q f g j e =
        last_in xs (suc k) (cond (p x) (Some k) found) Q (λ i y h t. subst Q (omega arith) (f (suc i) y h t)) (go (p x) refl) j e
      where
        go : (b : Bool) → p x ≡ b → (j : ℕ) → cond b (Some k) found ≡ Some j → Q j
        go true t j h = let q : k ≡ j = cc in subst Q (omega arith) (f 0 x refl t)
        go false t j h = g j h

    -- what stands at the last place passes the test
    pub last_passes : (xs : List X) (j : ℕ) → last_at p xs ≡ Some j → (x : X) × (slice_get xs j ≡ Some x) × (p x ≡ true)
    last_passes xs j e =
        last_in xs 0 None (λ j. (x : X) × (slice_get xs j ≡ Some x) × (p x ≡ true))
        (λ i x h t. (x, subst (λ k. slice_get xs k ≡ Some x) (omega arith) h, t))
        (λ j h. let z : ◌≡◌ {A = ℕ} 0 1 = cc in absurd (omega arith)) j e

abbrev pub sitting : List (Option Open) → ℕ → Option Open
sitting ps n = at_place ps (last_at (numbered n) ps)

abbrev pub vacant : Option Open → Bool
vacant None = true
vacant (Some o) = false

abbrev pub spare : List (Option Open) → ℕ
spare ps = tally vacant ps

pub record Tidy (g : ℕ) (ps : List (Option Open)) : Type 0 where
  pub once : (n : ℕ) → tally (numbered n) ps ≤ 1
  pub none : (n : ℕ) → g < n → tally (numbered n) ps ≡ 0

abbrev pub Ours : ℕ → Option Open → Type 0
Ours n None = Unit {0}
Ours n (Some o) = o.number ≡ n
