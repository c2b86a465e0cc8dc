use Rattle.std.proofs.Common.{◌≡◌, false}
use Rattle.answers.specs.Questions.{some_below, dirty}
use Rattle.answers.proofs.listed.Listed.has_dirty_read.Given as goal

abbrev pub invariant-loop-place : goal.invariant-loop-place
invariant-loop-place g l = some_below (dirty l.self.entries.now l.dones) l.place ≡ false
