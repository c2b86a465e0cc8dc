use Rattle.std.proofs.Common.{[], ◌≡◌, length}
use Rattle.reach.specs.Paths.{edges}
use Rattle.reach.specs.Searches.{waiting, Clear}
use Rattle.answers.specs.Questions.{Snapshots, Conflicts}
use Rattle.answers.proofs.listed.Listed.verdict.Given as goal

abbrev pub invariant-loop-owner : goal.invariant-loop-owner
invariant-loop-owner g l = record {
  aca : l.verdict.aca ≡ l.initial.verdict.aca;
  cons : Snapshots l.self.entries.now (edges l.dependences.writers) (length l.self.entries.now) l.owner l.verdict.cons;
  wcf : Conflicts l.self.entries.now l.dones (edges l.dependences.writers) (edges l.dependences.readers) (length l.self.entries.now) l.owner l.verdict.wcf;
  back : length l.back ≡ 2048;
  marks : length l.marks ≡ length l.initial.marks;
  clear : Clear l.marks;
  empty : (waiting l.queue) ≡ [];
}
