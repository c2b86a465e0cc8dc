-- Lists of counts: zeros, and what is small. Assumes nothing.
use Rattle.std.proofs.Common.{◌≡◌, ℕ, zero, suc, ◌<◌, ◌≤◌, true, false, cond, ltb, leb, List, [], ◌∷◌, ◌++◌, length, get_or, take, min, ◌-◌, drop, replicate, sym, refl, ◌∙◌, ⊎_elim, append-nil, length-drop, arith}
use Rattle.std.proofs.lemmas.List.{get_or_past, drop_all}
use Rattle.std.proofs.lemmas.Bool.{leb-true, lt-leb, le-leb, le-ltb, ltb-false, and_parts, and_right, cond_both, cond-false, cases_lt}
use Rattle.std.proofs.lemmas.Bool.Decides.{nat_tests}
use borrow.Rule.Slice.PartMut.{put_mid, post_of}
use Rattle.stamps.specs.Counts.{all_small, counts_at, cut}

pub zeros : (n i : ℕ) → get_or (replicate {A = ℕ} n 0) i 0 ≡ 0
zeros zero i = refl
zeros (suc n) zero = refl
zeros (suc n) (suc i) = zeros n i

-- zeros at the end of a list leave its meaning
pub zeros_behind : (xs ys : List ℕ) (i : ℕ) → ((j : ℕ) → get_or ys j 0 ≡ 0) → get_or (xs ++ ys) i 0 ≡ get_or xs i 0
zeros_behind [] ys i none = none i
zeros_behind (x ∷ xs) ys zero none = refl
zeros_behind (x ∷ xs) ys (suc i) none = zeros_behind xs ys i none

-- one count too large, and the list is not small
pub not_small : (xs : List ℕ) (i : ℕ) → i < length xs → 65535 < get_or xs i 0 → all_small xs ≡ false
not_small [] i h large = absurd (omega arith)
not_small (x ∷ xs) zero h large = rw (lt-leb x 65535 large)
not_small (x ∷ xs) (suc i) h large = and_right (leb x 65535) (all_small xs) (not_small xs i (omega arith) large)

-- each count is small, and so is the list
pub small_from : (xs : List ℕ) → ((i : ℕ) → i < length xs → get_or xs i 0 ≤ 65535) → all_small xs ≡ true
small_from [] each = refl
small_from (x ∷ xs) each =
    let first = le-leb x 65535 (each 0 (omega arith)) in
    let rest = small_from xs (λ i (h : i < length xs). each (suc i) (omega arith)) in
    rw first rest

pub small_at : (xs : List ℕ) (i : ℕ) → all_small xs ≡ true → get_or xs i 0 ≤ 65535
small_at [] i small = omega arith
small_at (x ∷ xs) zero small = leb-true x 65535 (and_parts (leb x 65535) (all_small xs) small).0
small_at (x ∷ xs) (suc i) small = small_at xs i (and_parts (leb x 65535) (all_small xs) small).1

-- a part from the start of a list that fits, fits too
pub small_take : (n : ℕ) (xs : List ℕ) → all_small xs ≡ true → all_small (take n xs) ≡ true
small_take zero xs small = refl
small_take (suc n) [] small = refl
small_take (suc n) (x ∷ xs) small =
    let both = and_parts (leb x 65535) (all_small xs) small in
    let rest = small_take n xs both.1 in
    rw both.0 rest

pub counts_take : (n : ℕ) (xs : List ℕ) (i : ℕ) → counts_at (take n xs) i ≡ cut n (counts_at xs) i
counts_take zero xs i = grind (arith, nat_tests)
counts_take (suc n) [] i = grind (arith, nat_tests)
counts_take (suc n) (x ∷ xs) zero = grind (arith, nat_tests)
counts_take (suc n) (x ∷ xs) (suc i) = counts_take n xs i ∙ grind (arith, nat_tests)

-- a list whose counts from w on are overwritten by zeros is cut there
pub cut_behind : (xs ys : List ℕ) (w k i : ℕ) → length xs ≡ 256 → k ≡ min w 256 → ys ≡ replicate {A = ℕ} (256 - k) 0 →
    get_or (put_mid k (256 - k) xs ys) i 0 ≡ cut w (counts_at xs) i
cut_behind xs ys w k i full at blank =
    let rest : post_of k (256 - k) xs ≡ [] = drop_all (256 - k) (drop k xs) (omega (arith, length-drop k xs)) in
    let tail : (j : ℕ) → get_or (ys ++ post_of k (256 - k) xs) j 0 ≡ 0 =
    λ j. rw (rest, append-nil, blank) (zeros (256 - k) j) in
    zeros_behind (take k xs) (ys ++ post_of k (256 - k) xs) i tail
    ∙ counts_take k xs i
    ∙ ⊎_elim
    (λ (low : i < 256). grind (arith, nat_tests))
    (λ (high : 256 ≤ i). let none = get_or_past xs i 0 (omega arith) in grind (arith, nat_tests, none))
    (cases_lt i 256)

-- what is copied up to the end or past it is the whole list
pub copied_all : (xs : List ℕ) (i k : ℕ) → length xs ≤ i → cond (ltb k i) (get_or xs k 0) 0 ≡ get_or xs k 0
copied_all xs i k h =
    cond_both (ltb k i) (get_or xs k 0) 0 (λ y. y ≡ get_or xs k 0) (λ _. refl)
    (λ past. sym (get_or_past xs k 0 (omega (arith, ltb-false k i past))))

-- a loop that copies counts into zeros starts with none copied
pub copied_none : (xs : List ℕ) (k : ℕ) → get_or (replicate {A = ℕ} 256 0) k 0 ≡ cond (ltb k 0) (get_or xs k 0) 0
copied_none xs k = zeros 256 k ∙ sym (cond-false _ _ _ (le-ltb k 0 (omega arith)))
