use Rattle.std.proofs.Common.{◌≡◌, ℕ, max, map, drop}
use Rattle.stamps.specs.Entries.{entries}
use Rattle.isolation.specs.Vectors.{greatest}
use Rattle.transactions.specs.Choosing.{stamps_of}
use Rattle.entries.specs.Contents.{reading}
use Rattle.committing.proofs.new_stamp.joined_stamp.Given as goal

abbrev pub invariant-loop-read : goal.invariant-loop-read
invariant-loop-read g l =
    (y : ℕ) → max (entries l.stamp y) (greatest (stamps_of (g.S.Shelf.meaning l.shelf)) (map reading (drop l.read-index l.reads)) y)
    ≡ greatest (stamps_of (g.S.Shelf.meaning l.shelf)) (map reading l.reads) y
