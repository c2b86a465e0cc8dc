use Rattle.std.proofs.Common.{◌%◌, length}
use Rattle.reach.specs.Links.{picks, bound}
use Rattle.digest.specs.Entries.{at, wrote}
use Rattle.digest.proofs.LinkLaws.{Ahead}
use Rattle.digest.proofs.register.Register.version_by.Given as goal

abbrev pub invariant-loop-place : goal.invariant-loop-place
invariant-loop-place g l =
    (goal.iterator-loop-place g).can_next l.place-iterator × (goal.iterator-loop-place g).is_finite l.place-iterator
    × Ahead (g.W.Walk.comes l.self.transactions) (l.transaction.0 % 2048) (λ k. wrote (at l.self.entries.items k) l.card.0 l.transaction.0) (length l.self.entries.items)
    (picks (g.W.Walk.comes l.place-iterator.walk.now l.place-iterator.node) (bound (g.W.Walk.count l.place-iterator.walk.now) l.place-iterator.position))
