use Rattle.std.proofs.Common.{sym, arith}
use Rattle.std.proofs.lemmas.Bool.Decides.{nat_tests}
use Rattle.answers.proofs.TestLaws.{none_below, none_more, some_hit}
use Rattle.answers.proofs.listed.Listed.has_dirty_read.Goals as goal

pub loop-place-init : goal.loop-place-init
loop-place-init g c = none_below _

pub returns-then-not-is_earlier : goal.returns-then-not-is_earlier
returns-then-not-is_earlier g c = sym (some_hit _ _ c.loop-place.place c.loop-place-test.true (grind (arith, nat_tests)))

pub loop-place-preserved : goal.loop-place-preserved
loop-place-preserved g c = none_more _ c.loop-place.place (grind (arith, nat_tests)) c.loop-place.invariant
