use Rattle.std.proofs.Common.{◌≡◌, ℕ, cond, ltb, length, get_or}
use Rattle.stamps.proofs.stamp.Stamp.list.Given as goal

abbrev pub invariant-loop-i : goal.invariant-loop-i
invariant-loop-i l =
    (length l.list ≡ 256)
    × ((k : ℕ) → get_or l.list k 0 ≡ cond (ltb k l.i) (get_or l.self.counts k 0) 0)
