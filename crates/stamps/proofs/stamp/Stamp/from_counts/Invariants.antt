use Rattle.std.proofs.Common.{◌≡◌, ℕ, ◌<◌, ◌≤◌, true, false, cond, ltb, min, length, get_or}
use Rattle.stamps.proofs.stamp.Stamp.from_counts.Given as goal

abbrev pub invariant-loop-i : goal.invariant-loop-i
invariant-loop-i l = record {
  full : length l.counts ≡ 256;
  copied : (k : ℕ) → get_or l.counts k 0 ≡ cond (ltb k l.i) (min (get_or l.list k 0) 65535) 0;
  fit : l.all_fit ≡ true → (k : ℕ) → k < l.i → get_or l.list k 0 ≤ 65535;
  large : l.all_fit ≡ false → (k : ℕ) × (k < l.i) × (65535 < get_or l.list k 0);
}
