use Rattle.std.proofs.Common.{◌≤◌}
use Rattle.std.specs.Fmt.{HasWritten, IsPlainFormatter}
use Rattle.scripts.specs.Text.{first_counts}
use Rattle.scripts.proofs.counts.CountsDisplay.fmt.Given as goal

-- the counts up to the next are written
abbrev pub invariant-loop-card : goal.invariant-loop-card
invariant-loop-card g l = (1 ≤ l.card) × (l.card ≤ l.self.cards) × (IsPlainFormatter l.fn.f → HasWritten g.W.Write.write_str_gives l.fn.f (first_counts l.self.stamp l.card) l.f)
