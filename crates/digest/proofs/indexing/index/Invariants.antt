use Rattle.std.proofs.Common.{◌≡◌, ◌≤◌, length}
use Rattle.records.specs.Parts.{records_in}
use Rattle.digest.specs.Told.{Indexed}
use Rattle.digest.proofs.indexing.index.Given as goal

abbrev pub invariant-loop-part : goal.invariant-loop-part
invariant-loop-part g l =
    (goal.iterator-loop-part g).can_next l.part-iterator × (goal.iterator-loop-part g).is_finite l.part-iterator
    × (l.part-iterator.bytes.now ≡ l.file)
    × (l.part-iterator.place ≡ length l.register.entries.items)
    × (length l.register.entries.items ≤ records_in l.file)
    × (length l.register.entries.items ≤ 2048)
    × Indexed l.file (length l.register.entries.items) l.register.entries.items
