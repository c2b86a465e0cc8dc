-- How much of a file is read. Assumes nothing.
--     read_at_most                one byte more than the largest file has
--     IsReadFrom known bs         bs is what is read where these bytes are known to come: all, or the
--                                 first of them
use Rattle.std.specs.Prelude.{◌≡◌, ℕ, ◌+◌, List, take, IfSome, Option}
use Rattle.rules.specs.Rules.{largest_file}

abbrev pub read_at_most : ℕ
read_at_most = largest_file + 1

abbrev pub IsReadFrom : Option (List ℕ) → List ℕ → Type 0
IsReadFrom known bs = IfSome known (λ all. bs ≡ take read_at_most all)
