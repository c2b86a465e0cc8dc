use Rattle.std.proofs.Common.{◌≡◌, ◌≤◌, ◌||◌, ltb, map, drop}
use Rattle.transactions.specs.Committing.{outdated}
use Rattle.entries.specs.Contents.{drafting}
use Rattle.tables.specs.Tables.{seat}
use Rattle.committing.proofs.certify.is_outdated.Given as goal

abbrev pub invariant-loop-draft : goal.invariant-loop-draft
invariant-loop-draft g l =
    (outdated (g.S.Shelf.meaning l.shelf) (seat l.here).reads (map drafting l.draft-items)
    ≡ (ltb 0 l.stale
    || outdated (g.S.Shelf.meaning l.shelf) (seat l.here).reads (map drafting (drop l.draft-index l.draft-items))))
    × (l.stale ≤ l.draft-index)
