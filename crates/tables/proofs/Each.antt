-- Elements with their places. Assumes nothing.
use Rattle.std.proofs.Common.{◌≡◌, ℕ, zero, suc, ◌+◌, ◌<◌, Bool, cond, ◌≢◌, List, [], ◌∷◌, ◌++◌, length, get_or, set, Some, Option, sym, refl, ap, ◌∙◌, arith}
use Rattle.std.specs.List.{slice_get}
use Rattle.transactions.specs.State.{last_from}
use Rattle.tables.specs.Rows.{each}

pub length_each : {X Y : Type 0} (f : ℕ → X → Y) (i : ℕ) (xs : List X) → length (each f i xs) ≡ length xs
length_each f i [] = refl
length_each f i (x ∷ xs) = ap suc (length_each f (suc i) xs)

pub nth_each : {X Y : Type 0} (f : ℕ → X → Y) (i k : ℕ) (xs : List X) (d : X) → k < length xs → slice_get (each f i xs) k ≡ Some (f (i + k) (get_or xs k d))
nth_each f i k [] d h = absurd (omega arith)
nth_each f i zero (x ∷ xs) d h = let e : i + 0 ≡ i = omega arith in rw e
nth_each f i (suc k) (x ∷ xs) d h =
    let e : suc i + k ≡ i + suc k = omega arith in
    nth_each f (suc i) k xs d (omega arith) ∙ ap (λ j. Some (f j (get_or xs k d))) e

pub each_same : {X Y : Type 0} (f g : ℕ → X → Y) (i : ℕ) (xs : List X) (d : X) →
    ((k : ℕ) → k < length xs → g (i + k) (get_or xs k d) ≡ f (i + k) (get_or xs k d)) → each g i xs ≡ each f i xs
each_same f g i [] d same = refl
each_same f g i (x ∷ xs) d same =
    let e : i + 0 ≡ i = omega arith in
    let first : g i x ≡ f i x = ap (λ j. g j x) (sym e) ∙ same 0 (omega arith) ∙ ap (λ j. f j x) e in
    let rest = each_same f g (suc i) xs d (λ k (h : k < length xs).
    let n : suc i + k ≡ i + suc k = omega arith in
    ap (λ j. g j (get_or xs k d)) n ∙ same (suc k) (omega arith) ∙ ap (λ j. f j (get_or xs k d)) (sym n)) in
    ap (λ y. y ∷ each g (suc i) xs) first ∙ ap (λ l. f i x ∷ l) rest

-- one place changes, and what the others hold stays
pub each_set : {X Y : Type 0} (f g : ℕ → X → Y) (i k : ℕ) (xs : List X) (y d : X) → k < length xs →
    ((j : ℕ) → j < length xs → j ≢ k → g (i + j) (get_or xs j d) ≡ f (i + j) (get_or xs j d)) →
    each g i (set xs k y) ≡ set (each f i xs) k (g (i + k) y)
each_set f g i k [] y d h same = absurd (omega arith)
each_set f g i zero (x ∷ xs) y d h same =
    let e : i + 0 ≡ i = omega arith in
    let rest = each_same f g (suc i) xs d (λ k (h : k < length xs).
    let n : suc i + k ≡ i + suc k = omega arith in
    ap (λ j. g j (get_or xs k d)) n ∙ same (suc k) (omega arith) (λ z. omega arith) ∙ ap (λ j. f j (get_or xs k d)) (sym n)) in
    ap (λ j. g j y ∷ each g (suc i) xs) (sym e) ∙ ap (λ l. g (i + 0) y ∷ l) rest
each_set f g i (suc k) (x ∷ xs) y d h same =
    let e : i + 0 ≡ i = omega arith in
    let m : suc i + k ≡ i + suc k = omega arith in
    let first : g i x ≡ f i x = ap (λ j. g j x) (sym e) ∙ same 0 (omega arith) (λ z. omega arith) ∙ ap (λ j. f j x) e in
    let rest = each_set f g (suc i) k xs y d (omega arith) (λ j (b : j < length xs) ne.
    let n : suc i + j ≡ i + suc j = omega arith in
    ap (λ j'. g j' (get_or xs j d)) n ∙ same (suc j) (omega arith) (λ z. ne (omega arith)) ∙ ap (λ j'. f j' (get_or xs j d)) (sym n)) in
    ap (λ z. z ∷ each g (suc i) (set xs k y)) first ∙ ap (λ l. f i x ∷ l) rest
    ∙ ap (λ j. f i x ∷ set (each f (suc i) xs) k (g j y)) m

-- a test of what stands there that needs only the element
pub last_each : {X Y : Type 0} (p : Y → Bool) (q : X → Bool) (f : ℕ → X → Y) (i j : ℕ) (xs : List X) (found : Option ℕ) →
    ((k : ℕ) (x : X) → p (f k x) ≡ q x) → last_from p (each f i xs) j found ≡ last_from q xs j found
last_each p q f i j [] found same = refl
last_each p q f i j (x ∷ xs) found same =
    ap (λ b. last_from p (each f (suc i) xs) (suc j) (cond b (Some j) found)) (same i x)
    ∙ last_each p q f (suc i) (suc j) xs (cond (q x) (Some j) found) same

pub each_push : {X Y : Type 0} (f : ℕ → X → Y) (i : ℕ) (xs : List X) (x : X) → each f i (xs ++ x ∷ []) ≡ each f i xs ++ f (i + length xs) x ∷ []
each_push f i [] x = let e : i + 0 ≡ i = omega arith in rw e
each_push f i (y ∷ xs) x =
    let e : suc i + length xs ≡ i + suc (length xs) = omega arith in
    ap (λ l. f i y ∷ l) (each_push f (suc i) xs x) ∙ ap (λ j. f i y ∷ (each f (suc i) xs ++ f j x ∷ [])) e
