use Rattle.std.proofs.Common.{◌≡◌}
use Rattle.reach.specs.Paths.{edges}
use Rattle.answers.specs.Questions.{Towards, steps}
use Rattle.answers.proofs.listed.Listed.depend.Given as goal

abbrev pub invariant-loop-entry : goal.invariant-loop-entry
invariant-loop-entry g l = record {
  writers : edges l.dependences.writers ≡ steps Towards.Writers l.self.entries.now l.entry-index;
  readers : edges l.dependences.readers ≡ steps Towards.Readers l.self.entries.now l.entry-index;
}
