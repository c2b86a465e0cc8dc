use Rattle.std.proofs.Common.{◌≡◌, ℕ, zero, suc, ◌+◌, ◌≤◌, ◌++◌, ap, arith, decimal, codes}
use Rattle.stamps.specs.declared.stamp.Stamp.{Stamp}
use Rattle.stamps.specs.Entries.{entries}
use Rattle.scripts.specs.Text.{first_counts}

pub one_more : (s : Stamp) (n : ℕ) → 1 ≤ n → first_counts s n ++ (codes " " ++ decimal (entries s n)) ≡ first_counts s (n + 1)
one_more s (suc n) le = ap (first_counts s) {x = suc (suc n)} {y = suc n + 1} (omega arith)
one_more s zero le = absurd (omega arith)
