-- Rows of a flat table, and what stands in a list's places. Assumes nothing.
use Rattle.std.proofs.Common.{◌≡◌, ℕ, zero, suc, ◌+◌, ◌-◌, ◌*◌, ◌<◌, ◌≤◌, ◌≢◌, List, [], ◌∷◌, ◌++◌, length, get_or, take, drop, set, refl, ap, ◌∙◌, ⊎_elim, mul-le-mul_right, suc-mul, arith}
use Rattle.std.specs.List.{between}
use Rattle.std.proofs.lemmas.List.{take-set-le, drop-set-lt, drop-set-add, get_or-set_same, length-set}
use Rattle.std.proofs.lemmas.List.Edits.{between_more, length-between}
use Rattle.std.proofs.lemmas.Bool.{cases_lt}
use Rattle.tables.specs.Rows.{row}

-- a write below the part or past it
pub between_set_past : {X : Type 0} (a b k : ℕ) (xs : List X) (y : X) → a ≤ b → b ≤ k → between a b (set xs k y) ≡ between a b xs
between_set_past a b k xs y h h' =
    let e : k ≡ a + (k - a) = omega arith in
    ap (λ n. take (b - a) (drop a (set xs n y))) e
    ∙ ap (take (b - a)) (drop-set-add a xs (k - a) y)
    ∙ take-set-le (b - a) (drop a xs) (k - a) y (omega arith)

pub between_set_below : {X : Type 0} (a b k : ℕ) (xs : List X) (y : X) → k < a → between a b (set xs k y) ≡ between a b xs
between_set_below a b k xs y h = ap (take (b - a)) (drop-set-lt a xs k y h)

-- the rows of two places do not overlap
pub rows_apart : (len p q : ℕ) → q < p → q * len + len ≤ p * len
rows_apart len p q h = let m = mul-le-mul_right {m = suc q} {n = p} len h in omega (arith, suc-mul q len, m)

pub row_set_other : {X : Type 0} (len p q n j : ℕ) (xs : List X) (y : X) → q ≢ p → n ≤ len → j < len →
    row len q n (set xs (p * len + j) y) ≡ row len q n xs
row_set_other len p q n j xs y ne h h' =
    ⊎_elim
    (λ (low : q < p). between_set_past (q * len) (q * len + n) (p * len + j) xs y (omega arith) (omega (arith, rows_apart len p q low)))
    (λ (high : p ≤ q).
    let above : p < q = omega arith in
    between_set_below (q * len) (q * len + n) (p * len + j) xs y (omega (arith, rows_apart len q p above)))
    (cases_lt q p)

pub row_push : {X : Type 0} (len p n : ℕ) (xs : List X) (y : X) → p * len + n < length xs →
    row len p (n + 1) (set xs (p * len + n) y) ≡ row len p n xs ++ y ∷ []
row_push len p n xs y h =
    let at = p * len + n in
    let ys = set xs at y in
    let e : p * len + (n + 1) ≡ at + 1 = omega arith in
    let more = between_more ys (p * len) at y (omega arith) (omega (arith, length-set xs at y)) in
    let old = between_set_past (p * len) at at xs y (omega arith) (omega arith) in
    let new = get_or-set_same xs at y y h in
    ap (λ b. between (p * len) b ys) e ∙ more ∙ ap (λ l. l ++ get_or ys at y ∷ []) old ∙ ap (λ z. between (p * len) at xs ++ z ∷ []) new

pub take_set_inside : {X : Type 0} (n j : ℕ) (xs : List X) (y : X) → take n (set xs j y) ≡ set (take n xs) j y
take_set_inside zero j xs y = refl
take_set_inside (suc n) zero [] y = refl
take_set_inside (suc n) (suc j) [] y = refl
take_set_inside (suc n) zero (x ∷ xs) y = refl
take_set_inside (suc n) (suc j) (x ∷ xs) y = ap (λ l. x ∷ l) (take_set_inside n j xs y)

pub row_put : {X : Type 0} (len p n j : ℕ) (xs : List X) (y : X) → row len p n (set xs (p * len + j) y) ≡ set (row len p n xs) j y
row_put len p n j xs y =
    let size = p * len + n - p * len in
    ap (take size) (drop-set-add (p * len) xs j y) ∙ take_set_inside size j (drop (p * len) xs) y

pub length_row : {X : Type 0} (len p n : ℕ) (xs : List X) → p * len + n ≤ length xs → length (row len p n xs) ≡ n
length_row len p n xs h = length-between xs (p * len) (p * len + n) h ∙ omega arith

pub between_zero : {X : Type 0} (len p n : ℕ) (xs : List X) → n ≡ 0 → row len p n xs ≡ []
between_zero len p n xs e =
    let z : p * len + n - p * len ≡ 0 = omega arith in
    ap (λ m. take m (drop (p * len) xs)) z
