-- The places of a list are made free one after the other. Assumes nothing.
use Rattle.std.proofs.Common.{◌≡◌, ℕ, zero, suc, List, [], ◌∷◌, length, set, replicate, None, Option, refl, ap}

-- the first n are free
abbrev pub freed : {X : Type 0} → ℕ → List (Option X) → List (Option X)
freed zero l = l
freed (suc n) [] = []
freed (suc n) (x ∷ l) = None ∷ freed n l

pub freed_more : {X : Type 0} (n : ℕ) (l : List (Option X)) → set (freed n l) n None ≡ freed (suc n) l
freed_more zero [] = refl
freed_more zero (x ∷ l) = refl
freed_more (suc n) [] = refl
freed_more (suc n) (x ∷ l) = ap (λ m. None ∷ m) (freed_more n l)

pub freed_all : {X : Type 0} (l : List (Option X)) → freed (length l) l ≡ replicate (length l) None
freed_all [] = refl
freed_all (x ∷ l) = ap (λ m. None ∷ m) (freed_all l)
