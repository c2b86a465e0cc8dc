use Rattle.std.proofs.Common.{◌≡◌, length}
use Rattle.shelf.specs.Meaning.{version_at}
use Rattle.shelf.proofs.Gathering.{Gathered}
use Rattle.shelf.proofs.shelf.Shelf.stamp.Given as goal

abbrev pub invariant-loop-of : goal.invariant-loop-of
invariant-loop-of g l = (length l.counts ≡ 256) × Gathered (version_at (g.Self.Shelf.meaning l.self) l.card.0 l.version.0) l.counts l.of
