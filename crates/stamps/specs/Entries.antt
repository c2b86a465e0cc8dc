-- A stamp's meaning, which its contracts speak of. Assumes nothing.
--     entries s       the count of each card, 0 past the stamp's room
use Rattle.std.specs.Prelude.{ℕ}
use Rattle.stamps.specs.declared.stamp.Stamp.{Stamp}
use Rattle.stamps.specs.Counts.{counts_at}

abbrev pub entries : Stamp → ℕ → ℕ
entries s = counts_at s.counts
