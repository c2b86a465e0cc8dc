use Rattle.std.proofs.Common.{◌%◌, ◌&&◌, length}
use Rattle.reach.specs.Links.{picks, bound}
use Rattle.digest.specs.Entries.{at, newer}
use Rattle.digest.proofs.LinkLaws.{Ahead}
use Rattle.answers.specs.Questions.{marked}
use Rattle.answers.proofs.listed.Listed.outdated.Given as goal

abbrev pub invariant-loop-place : goal.invariant-loop-place
invariant-loop-place g l =
    (goal.iterator-loop-place g).can_next l.place-iterator × (goal.iterator-loop-place g).is_finite l.place-iterator
    × Ahead (g.W.Walk.comes l.self.writs.now) (l.read.card.0 % 2048) (λ j. newer (at l.self.entries.now j) l.read && marked l.marks (at l.self.entries.now j).owner) (length l.self.entries.now) (picks (g.W.Walk.comes l.place-iterator.walk.now l.place-iterator.node) (bound (g.W.Walk.count l.place-iterator.walk.now) l.place-iterator.position))
