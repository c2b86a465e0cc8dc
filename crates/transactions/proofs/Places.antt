-- Places in a list: what stands where, and the last that passes a test.
use Rattle.std.proofs.Common.{◌≡◌, ℕ, zero, suc, ◌+◌, ◌<◌, Bool, true, false, cond, ◌⊎◌, List, [], ◌∷◌, ◌++◌, length, set, replicate, Some, None, Ok, Err, Option, sym, refl, ap, ◌∙◌, subst, inl, inr, arith}
use Rattle.std.specs.List.{slice_get}
use Rattle.std.proofs.lemmas.Bool.{cases_Bool, cond-true, cond-false}
pub use Rattle.rules.proofs.Snoc.{nth_front}
use Rattle.transactions.specs.State.{last_from, last_at}

pub none_some : {X : Type 0} {x : X} → None ≡ Some x → ⊥
none_some e = let z : ◌≡◌ {A = ℕ} 0 1 = cc in omega arith

pub some_same : {X : Type 0} {x y : X} → Some x ≡ Some y → x ≡ y
some_same e = cc

pub ok_not_err : {X Y : Type 0} {x : X} {y : Y} → Ok x ≡ Err y → ⊥
ok_not_err e = let z : ◌≡◌ {A = ℕ} 0 1 = cc in omega arith

pub nth_within : {X : Type 0} (xs : List X) (i : ℕ) (x : X) → slice_get xs i ≡ Some x → i < length xs
nth_within [] i x e = absurd (none_some e)
nth_within (y ∷ xs) zero x e = omega arith
nth_within (y ∷ xs) (suc i) x e = omega (arith, nth_within xs i x e)

pub nth_there : {X : Type 0} (xs : List X) (i : ℕ) → i < length xs → (x : X) × (slice_get xs i ≡ Some x)
nth_there [] i lt = absurd (omega arith)
nth_there (y ∷ xs) zero lt = (y, refl)
nth_there (y ∷ xs) (suc i) lt = nth_there xs i (omega arith)

pub nth_set_here : {X : Type 0} (xs : List X) (i : ℕ) (v : X) → i < length xs → slice_get (set xs i v) i ≡ Some v
nth_set_here [] i v lt = absurd (omega arith)
nth_set_here (x ∷ xs) zero v lt = refl
nth_set_here (x ∷ xs) (suc i) v lt = nth_set_here xs i v (omega arith)

pub nth_set_there : {X : Type 0} (xs : List X) (i j : ℕ) (v : X) → (j ≡ i → ⊥) → slice_get (set xs i v) j ≡ slice_get xs j
nth_set_there [] i j v ne = refl
nth_set_there (x ∷ xs) zero zero v ne = absurd (ne refl)
nth_set_there (x ∷ xs) zero (suc j) v ne = refl
nth_set_there (x ∷ xs) (suc i) zero v ne = refl
nth_set_there (x ∷ xs) (suc i) (suc j) v ne = nth_set_there xs i j v (λ e. ne (ap suc e))

pub nth_replicate : {X : Type 0} (n i : ℕ) (v x : X) → slice_get (replicate n v) i ≡ Some x → v ≡ x
nth_replicate zero i v x e = absurd (none_some e)
nth_replicate (suc n) zero v x e = some_same e
nth_replicate (suc n) (suc i) v x e = nth_replicate n i v x e

pub nth_behind : {X : Type 0} (xs ys : List X) (i : ℕ) → slice_get (xs ++ ys) (length xs + i) ≡ slice_get ys i
nth_behind [] ys i = ap (slice_get ys) (omega arith)
nth_behind {X} (x ∷ xs) ys i =
    let e : suc (length xs) + i ≡ suc (length xs + i) = omega arith in
    ap (slice_get (x ∷ (xs ++ ys))) e ∙ nth_behind xs ys i

pub nth_cases : {X : Type 0} (xs ys : List X) (i : ℕ) (x : X) → slice_get (xs ++ ys) i ≡ Some x
    → (slice_get xs i ≡ Some x) ⊎ ((j : ℕ) × (i ≡ length xs + j) × (slice_get ys j ≡ Some x))
nth_cases [] ys i x e = inr (i, omega arith, e)
nth_cases (y ∷ xs) ys zero x e = inl e
nth_cases {X} (y ∷ xs) ys (suc i) x e = go (nth_cases xs ys i x e)
  where
    go : (slice_get xs i ≡ Some x) ⊎ ((j : ℕ) × (i ≡ length xs + j) × (slice_get ys j ≡ Some x))
        → (slice_get xs i ≡ Some x) ⊎ ((j : ℕ) × (suc i ≡ suc (length xs) + j) × (slice_get ys j ≡ Some x))
    go (inl q) = inl q
    go (inr (j, q, r)) = inr (j, omega arith, r)

-- what stands in front stays where it is
pub nth_stays : {X : Type 0} (xs ys : List X) (i : ℕ) (x : X) → slice_get xs i ≡ Some x → slice_get (xs ++ ys) i ≡ Some x
nth_stays xs ys i x e = nth_front xs ys i (nth_within xs i x e) ∙ e

-- a test that nothing passes
last_none : {X : Type 0} (p : X → Bool) (xs : List X) (i : ℕ) (found : Option ℕ)
    → ((k : ℕ) (x : X) → slice_get xs k ≡ Some x → p x ≡ false) → last_from p xs i found ≡ found
last_none p [] i found h = refl
last_none p (x ∷ xs) i found h =
    last_none p xs (suc i) (cond (p x) (Some i) found) (λ k y e. h (suc k) y e) ∙ cond-false (p x) (Some i) found (h zero x refl)

pub none_last : {X : Type 0} (p : X → Bool) (xs : List X) → ((k : ℕ) (x : X) → slice_get xs k ≡ Some x → p x ≡ false) → last_at p xs ≡ None
none_last p xs h = last_none p xs 0 None h

-- a test that one place alone passes
last_only : {X : Type 0} (p : X → Bool) (xs : List X) (i : ℕ) (found : Option ℕ) (k : ℕ) (x : X) → slice_get xs k ≡ Some x → p x ≡ true
    → ((j : ℕ) (y : X) → slice_get xs j ≡ Some y → p y ≡ true → j ≡ k) → last_from p xs i found ≡ Some (i + k)
last_only p [] i found k x e t h = absurd (none_some e)
last_only {X} p (z ∷ xs) i found zero x e t h =
    last_none p xs (suc i) (cond (p z) (Some i) found) (λ k y q. rest k y q (cases_Bool (p y)))
    ∙ cond-true (p z) (Some i) found (subst (λ w. p w ≡ true) (sym (some_same e)) t)
    ∙ ap Some (omega arith)
  where
    rest : (k : ℕ) (y : X) → slice_get xs k ≡ Some y → (p y ≡ true) ⊎ (p y ≡ false) → p y ≡ false
    rest k y q (inl u) = absurd (omega (arith, h (suc k) y q u))
    rest k y q (inr u) = u
last_only p (z ∷ xs) i found (suc k) x e t h =
    last_only p xs (suc i) (cond (p z) (Some i) found) k x e t (λ j y q u. omega (arith, h (suc j) y q u)) ∙ ap Some (omega arith)

pub only_last : {X : Type 0} (p : X → Bool) (xs : List X) (k : ℕ) (x : X) → slice_get xs k ≡ Some x → p x ≡ true
    → ((j : ℕ) (y : X) → slice_get xs j ≡ Some y → p y ≡ true → j ≡ k) → last_at p xs ≡ Some k
only_last p xs k x e t h = last_only p xs 0 None k x e t h ∙ ap Some (omega arith)
