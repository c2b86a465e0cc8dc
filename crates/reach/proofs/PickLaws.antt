-- Numbers picked from the greatest on: what stands in front, and what a walk over them has passed.
use Rattle.std.proofs.Common.{◌≡◌, ℕ, zero, suc, ◌<◌, ◌≤◌, Bool, true, false, List, [], ◌∷◌, Some, sym, refl, ap, ◌∙◌, subst, inl, inr, arith}
use Rattle.std.proofs.lemmas.Bool.{cases_Bool, cases_lt, cases_eq}
use Rattle.reach.specs.Links.{picks, behind, first}

pub picks_same : (p q : ℕ → Bool) (n : ℕ) → ((i : ℕ) → i < n → p i ≡ q i) → picks p n ≡ picks q n
unfolding picks
picks_same p q zero h = refl
picks_same p q (suc n) h =
    let one : p n ≡ q n = h n (omega arith) in
    let rest : picks p n ≡ picks q n = picks_same p q n (λ i lt. h i (omega arith)) in
    cc

-- k stands in front of the numbers below m, and xs behind it
pub record Front (q : ℕ → Bool) (m k : ℕ) (xs : List ℕ) : Type 0 where
  pub below : k < m
  pub has : q k ≡ true
  pub rest : xs ≡ picks q k
  pub none : (i : ℕ) → k < i → i < m → q i ≡ false

pub picks_front : (q : ℕ → Bool) (m k : ℕ) (xs : List ℕ) → picks q m ≡ k ∷ xs → Front q m k xs
unfolding picks
picks_front q zero k xs e = absurd (cc)
picks_front q (suc m) k xs e = elim (cases_Bool (q m)) [ inl t ↦ here t | inr f ↦ lower f (picks_front q m k xs) ]
  where
    here : q m ≡ true → Front q (suc m) k xs
    here t =
        let same : m ∷ picks q m ≡ k ∷ xs = cc in
        let at : m ≡ k = cc in
        let behind : picks q m ≡ xs = cc in
        record {
          below = omega arith;
          has = subst (λ n. q n ≡ true) at t;
          rest = sym behind ∙ ap (picks q) at;
          none = λ i gt lt. absurd (omega arith);
        }

    lower : q m ≡ false → (picks q m ≡ k ∷ xs → Front q m k xs) → Front q (suc m) k xs
    lower f below =
        let same : picks q m ≡ k ∷ xs = cc in
        let h = below same in
        record {
          below = omega (arith, h.below);
          has = h.has;
          rest = h.rest;
          none = λ i gt lt. elim (cases_lt i m) [ inl small ↦ h.none i gt small | inr large ↦ let s : m ≡ i = omega arith in subst (λ n. q n ≡ false) s f ];
        }

pub picks_none : (q : ℕ → Bool) (m : ℕ) → picks q m ≡ [] → (i : ℕ) → i < m → q i ≡ false
unfolding picks
picks_none q zero e i lt = absurd (omega arith)
picks_none q (suc m) e i lt = elim (cases_Bool (q m)) [ inl t ↦ absurd (let bad : m ∷ picks q m ≡ [] = cc in cc) | inr f ↦ lower f (picks_none q m) ]
  where
    lower : q m ≡ false → (picks q m ≡ [] → (j : ℕ) → j < m → q j ≡ false) → q i ≡ false
    lower f below =
        let same : picks q m ≡ [] = cc in
        elim (cases_lt i m) [ inl small ↦ below same i small | inr large ↦ let s : m ≡ i = omega arith in subst (λ n. q n ≡ false) s f ]

-- the first of the numbers tells the others
pub behind_first : (q : ℕ → Bool) (n : ℕ) → behind q (first (picks q n)) ≡ picks q n
behind_first q n = told (picks q n) refl
  where
    told : (xs : List ℕ) → picks q n ≡ xs → behind q (first xs) ≡ xs
    told [] e = refl
    told (k ∷ xs) e = ap (λ ys. k ∷ ys) (sym (picks_front q n k xs e).rest)

pub first_inside : (q : ℕ → Bool) (n k : ℕ) → first (picks q n) ≡ Some k → (k < n) × (q k ≡ true)
first_inside q n k s = told (picks q n) refl s
  where
    told : (xs : List ℕ) → picks q n ≡ xs → first xs ≡ Some k → (k < n) × (q k ≡ true)
    told [] e s = absurd (cc)
    told (j ∷ xs) e s = let at : j ≡ k = cc in let f = picks_front q n j xs e in (omega (arith, f.below), subst (λ i. q i ≡ true) at f.has)

-- the numbers with the test q that a walk has still to come to, where none that it has passed has P
pub record Passed (q : ℕ → Bool) (P : ℕ → Type 0) (n : ℕ) (xs : List ℕ) : Type 0 where
  pub mark : ℕ
  pub within : mark ≤ n
  pub rest : xs ≡ picks q mark
  pub none : (i : ℕ) → mark ≤ i → i < n → P i → ⊥

module _ (q : ℕ → Bool) (P : ℕ → Type 0) (n : ℕ) where
  pub passed_none : (xs : List ℕ) → xs ≡ picks q n → Passed q P n xs
  passed_none xs e = record { mark = n; within = omega arith; rest = e; none = λ i ge lt p. absurd (omega arith) }

  -- the next number is one of them
  pub passed_here : (k : ℕ) (xs : List ℕ) → Passed q P n (k ∷ xs) → (k < n) × (q k ≡ true)
  passed_here k xs h = let f = picks_front q h.mark k xs (sym h.rest) in (omega (arith, f.below, h.within), f.has)

  module _ (only : (i : ℕ) → P i → q i ≡ true) where
    passed_over : (i : ℕ) → q i ≡ false → P i → ⊥
    passed_over i f p = let t : true ≡ false = sym (only i p) ∙ f in absurd (cc)

    -- none between it and those that were passed has P
    pub passed_between : (k : ℕ) (xs : List ℕ) → Passed q P n (k ∷ xs) → (i : ℕ) → k < i → i < n → P i → ⊥
    passed_between k xs h i gt lt p =
        let f = picks_front q h.mark k xs (sym h.rest) in
        elim (cases_lt i h.mark) [ inl small ↦ passed_over i (f.none i gt small) p | inr large ↦ h.none i large lt p ]

    -- one more is passed that has not P
    pub passed_more : (k : ℕ) (xs : List ℕ) → Passed q P n (k ∷ xs) → (P k → ⊥) → Passed q P n xs
    passed_more k xs h not =
        let f = picks_front q h.mark k xs (sym h.rest) in
        record {
          mark = k;
          within = omega (arith, f.below, h.within);
          rest = f.rest;
          none = λ i ge lt p. elim (cases_eq i k) [ inl e ↦ not (subst P e p) | inr ne ↦ passed_between k xs h i (omega arith) lt p ];
        }

    -- none has P, where all are passed
    pub passed_all : Passed q P n [] → (i : ℕ) → i < n → P i → ⊥
    passed_all h i lt p =
        elim (cases_lt i h.mark) [ inl small ↦ passed_over i (picks_none q h.mark (sym h.rest) i small) p | inr large ↦ h.none i large lt p ]

-- what fewer numbers have, none has either
pub passed_less : (q : ℕ → Bool) (P Q : ℕ → Type 0) (n : ℕ) (xs : List ℕ) → ((i : ℕ) → Q i → P i) → Passed q P n xs → Passed q Q n xs
passed_less q P Q n xs less h = record { mark = h.mark; within = h.within; rest = h.rest; none = λ i ge lt x. h.none i ge lt (less i x) }
