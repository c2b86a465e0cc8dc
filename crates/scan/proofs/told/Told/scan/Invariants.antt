use Rattle.std.proofs.Common.{◌≡◌, length}
use Rattle.scan.specs.Scanning.{Scanned}
use Rattle.scan.proofs.told.Told.scan.Given as goal

abbrev pub invariant-loop-bytes : goal.invariant-loop-bytes
invariant-loop-bytes l =
    (goal.iterator-loop-bytes).can_next l.bytes-iterator × (goal.iterator-loop-bytes).is_finite l.bytes-iterator
    × (l.self.file.now ≡ l.initial.self.file.now) × (l.self.count ≡ length l.yielded) × Scanned l.initial.self.file.now l.self.count
