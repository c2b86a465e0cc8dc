use Rattle.std.proofs.Common.{vec_len}
use Rattle.workloads.proofs.editing.hot.Given as goal

abbrev pub decreases-loop-slip : goal.decreases-loop-slip
decreases-loop-slip g l = vec_len l.slips
