use Rattle.std.proofs.Common.{vec_len}
use Rattle.sessions.proofs.session.hand_in_all.Given as goal

abbrev pub decreases-loop-slip : goal.decreases-loop-slip
decreases-loop-slip l = vec_len l.slips
