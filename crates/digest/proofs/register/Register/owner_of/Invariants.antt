use Rattle.std.proofs.Common.{◌%◌, eqb, length}
use Rattle.reach.specs.Links.{picks, bound}
use Rattle.digest.specs.Entries.{at}
use Rattle.digest.proofs.LinkLaws.{Ahead}
use Rattle.digest.proofs.register.Register.owner_of.Given as goal

abbrev pub invariant-loop-place : goal.invariant-loop-place
invariant-loop-place g l =
    (goal.iterator-loop-place g).can_next l.place-iterator × (goal.iterator-loop-place g).is_finite l.place-iterator
    × Ahead (g.W.Walk.comes l.self.transactions) (l.transaction.0 % 2048) (λ k. eqb (at l.self.entries.items k).transaction.0 l.transaction.0) (length l.self.entries.items)
    (picks (g.W.Walk.comes l.place-iterator.walk.now l.place-iterator.node) (bound (g.W.Walk.count l.place-iterator.walk.now) l.place-iterator.position))
