-- How the counts of a stamp are printed. Assumes nothing.
--     before n            a space, but nothing before the first count
--     first_counts s n    the first n counts of a stamp, in decimal, with a space between two
--     counts_text c       the counts that are asked for
use Rattle.std.specs.Prelude.{ℕ, zero, suc, List, [], ◌++◌, codes, decimal}
use Rattle.stamps.specs.declared.stamp.Stamp.{Stamp}
use Rattle.stamps.specs.Entries.{entries}
use Rattle.scripts.specs.declared.counts.Counts.{Counts}

abbrev pub before : ℕ → List ℕ
before zero = []
before (suc n) = codes " "

abbrev pub first_counts : Stamp → ℕ → List ℕ
first_counts s zero = []
first_counts s (suc n) = first_counts s n ++ (before n ++ decimal (entries s n))

abbrev pub counts_text : Counts → List ℕ
counts_text c = first_counts c.stamp c.cards
