use Rattle.std.proofs.Common.{◌≡◌, length}
use Rattle.workloads.proofs.store.put_all.Given as goal

abbrev pub invariant-loop-i : goal.invariant-loop-i
invariant-loop-i g l = length l.counts ≡ 256
