use Rattle.std.proofs.Common.{◌&&◌}
use Rattle.reach.specs.Links.{picks, bound}
use Rattle.digest.specs.Entries.{at, rivals}
use Rattle.digest.proofs.LinkLaws.{Ahead}
use Rattle.answers.specs.Questions.{apart, writ_node}
use Rattle.answers.proofs.listed.Listed.clashes.Given as goal

abbrev pub invariant-loop-earlier : goal.invariant-loop-earlier
invariant-loop-earlier g l =
    (goal.iterator-loop-earlier g).can_next l.earlier-iterator × (goal.iterator-loop-earlier g).is_finite l.earlier-iterator
    × Ahead (g.W.Walk.comes l.self.writs.now) (writ_node (at l.self.entries.now l.place)) (λ j. rivals (at l.self.entries.now l.place) (at l.self.entries.now j) && apart l.known.dones.now l.known.forward.now l.known.backward.now (at l.self.entries.now j).owner) l.place (picks (g.W.Walk.comes l.earlier-iterator.walk.now l.earlier-iterator.node) (bound (g.W.Walk.count l.earlier-iterator.walk.now) l.earlier-iterator.position))
