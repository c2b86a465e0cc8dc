-- Lists with more at the end, place by place. Assumes nothing.
use Rattle.std.proofs.Common.{◌≡◌, ℕ, zero, suc, ◌<◌, ◌⊎◌, List, [], ◌∷◌, ◌++◌, length, Some, refl, ap, inl, inr, arith}
use Rattle.std.specs.List.{slice_get}
use Rattle.std.proofs.lemmas.List.{length-append}

pub length_snoc : {X : Type 0} (xs : List X) (x : X) → length (xs ++ x ∷ []) ≡ suc (length xs)
length_snoc xs x = omega (arith, length-append xs (x ∷ []))

pub nth_inside : {X : Type 0} (xs : List X) (i : ℕ) → i < length xs → (x : X) × (slice_get xs i ≡ Some x)
nth_inside [] i lt = absurd (omega arith)
nth_inside (x ∷ xs) zero lt = (x, refl)
nth_inside (x ∷ xs) (suc i) lt = nth_inside xs i (omega arith)

pub nth_below : {X : Type 0} (xs : List X) (i : ℕ) (x : X) → slice_get xs i ≡ Some x → i < length xs
nth_below [] i x e = let z : ◌≡◌ {A = ℕ} 0 1 = cc in absurd (omega arith)
nth_below (y ∷ xs) zero x e = omega arith
nth_below (y ∷ xs) (suc i) x e = omega (arith, nth_below xs i x e)

-- an element of the longer list is old, or it is the new one
pub nth_snoc : {X : Type 0} (xs : List X) (y x : X) (i : ℕ) → slice_get (xs ++ y ∷ []) i ≡ Some x → ((i < length xs) × (slice_get xs i ≡ Some x)) ⊎ ((i ≡ length xs) × (y ≡ x))
nth_snoc [] y x zero e = inr (refl, cc)
nth_snoc [] y x (suc i) e = let z : ◌≡◌ {A = ℕ} 0 1 = cc in absurd (omega arith)
nth_snoc (z ∷ xs) y x zero e = inl (omega arith, e)
nth_snoc (z ∷ xs) y x (suc i) e = elim (nth_snoc xs y x i e) [ inl (lt, f) ↦ inl (omega arith, f) | inr (s, f) ↦ inr (ap suc s, f) ]

pub nth_front : {X : Type 0} (xs ys : List X) (i : ℕ) → i < length xs → slice_get (xs ++ ys) i ≡ slice_get xs i
nth_front [] ys i lt = absurd (omega arith)
nth_front (x ∷ xs) ys zero lt = refl
nth_front (x ∷ xs) ys (suc i) lt = nth_front xs ys i (omega arith)

pub nth_last : {X : Type 0} (xs : List X) (x : X) → slice_get (xs ++ x ∷ []) (length xs) ≡ Some x
nth_last [] x = refl
nth_last (y ∷ xs) x = nth_last xs x

-- a list that is not empty has a last element
pub snoc_of : {X : Type 0} (xs : List X) (n : ℕ) → length xs ≡ suc n → (ys : List X) × (y : X) × (xs ≡ ys ++ y ∷ []) × (length ys ≡ n)
snoc_of [] n e = absurd (omega arith)
snoc_of (x ∷ []) n e = ([], x, refl, omega arith)
snoc_of (x ∷ (z ∷ xs)) zero e = absurd (omega arith)
snoc_of (x ∷ (z ∷ xs)) (suc n) e =
    let (ys, y, same, long) = snoc_of (z ∷ xs) n (omega arith) in
    (x ∷ ys, y, ap (λ zs. x ∷ zs) same, omega arith)
