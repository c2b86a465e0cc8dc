use Rattle.std.proofs.Common.{◌&&◌, eqb, length}
use Rattle.reach.specs.Links.{picks, bound}
use Rattle.rules.specs.Rules.{is_read}
use Rattle.digest.specs.Entries.{at}
use Rattle.digest.proofs.LinkLaws.{Ahead}
use Rattle.answers.specs.Questions.{outdated}
use Rattle.answers.proofs.listed.Listed.stale.Given as goal

abbrev pub invariant-loop-place : goal.invariant-loop-place
invariant-loop-place g l =
    (goal.iterator-loop-place g).can_next l.place-iterator × (goal.iterator-loop-place g).is_finite l.place-iterator
    × Ahead (g.W.Walk.comes l.self.own.now) l.owner (λ j. is_read (at l.self.entries.now j).kind && eqb (at l.self.entries.now j).owner l.owner && outdated l.self.entries.now l.marks (at l.self.entries.now j)) (length l.self.entries.now) (picks (g.W.Walk.comes l.place-iterator.walk.now l.place-iterator.node) (bound (g.W.Walk.count l.place-iterator.walk.now) l.place-iterator.position))
