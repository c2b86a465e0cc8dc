use Rattle.std.proofs.Common.{◌≡◌, ℕ, max, cond, ltb, length, get_or}
use Rattle.stamps.proofs.stamp.calls.raise.Given as goal

abbrev pub invariant-loop-i : goal.invariant-loop-i
invariant-loop-i l =
    (length l.mine ≡ 256)
    × ((k : ℕ) → get_or l.mine k 0 ≡ cond (ltb k l.i) (max (get_or l.initial.mine k 0) (get_or l.other k 0)) (get_or l.initial.mine k 0))
