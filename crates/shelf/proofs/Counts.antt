-- Counts that are no more than the width are not cut. Assumes nothing.
use Rattle.std.proofs.Common.{◌≡◌, ℕ, zero, suc, ◌≤◌, List, [], ◌∷◌, length, arith}
use Rattle.std.proofs.lemmas.Bool.Decides.{nat_tests}
use Rattle.stamps.specs.Counts.{cut, counts_at}

pub cut_short : (w : ℕ) (xs : List ℕ) → length xs ≤ w → (i : ℕ) → cut w (counts_at xs) i ≡ counts_at xs i
cut_short w [] h i = grind (arith, nat_tests)
cut_short w (x ∷ xs) h zero = grind (arith, nat_tests)
cut_short zero (x ∷ xs) h (suc i) = absurd (omega arith)
cut_short (suc w) (x ∷ xs) h (suc i) = grind (arith, nat_tests, cut_short w xs (omega arith) i)
