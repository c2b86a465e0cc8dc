use Rattle.std.proofs.Common.{length}
use Rattle.reach.specs.Links.{leaves, picks, bound}
use Rattle.reach.specs.Paths.{edges}
use Rattle.reach.proofs.PickLaws.{Passed}
use Rattle.scan.specs.Scanning.{deed_told, node}
use Rattle.scan.proofs.Scans.{Telling}
use Rattle.scan.proofs.told.Told.tells.Given as goal

-- no record that was passed tells it
abbrev pub invariant-loop-place : goal.invariant-loop-place
invariant-loop-place l =
    (goal.iterator-loop-place).can_next l.place-iterator × (goal.iterator-loop-place).is_finite l.place-iterator
    × Passed (leaves (edges l.self.links) (node l.by.0)) (Telling (deed_told l.deed l.by.0) l.self.file.now l.self.count) (length (edges l.self.links))
    (picks (leaves (edges l.place-iterator.walk.now) l.place-iterator.node) (bound (length (edges l.place-iterator.walk.now)) l.place-iterator.position))
