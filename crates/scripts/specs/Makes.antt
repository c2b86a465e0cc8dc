-- The makes of shelf that a script can ask for. Assumes nothing.
--     make_fits k         each part of the make k is within the limits of its own make: 4,095
--                         places of a row's drawer, 65,535 of a pool's
--     row_and_pool l r    a row of the size l and a pool of the size r, joined, both fresh
--     fresh_of k          the shelf of the make k, each card at version 0 alone, all places free
--     made_by k           the same where each part fits; else the shelf of no cards
use Rattle.std.specs.Prelude.{Bool, cond, ◌&&◌}
use Rattle.drawers.specs.Fresh.{no_cards, fresh, each_own, all_one, size_fits}
use Rattle.scripts.specs.declared.makes.Make.{Make}
use Rattle.scripts.specs.declared.makes.Make.TheVariants.{Row, Pool, Split, Nested}
use Rattle.shelf.specs.Meaning.{Meaning}
use Rattle.shelf.specs.declared.size.Size.{Size}
use Rattle.splits.specs.Split.{parts, join}

abbrev pub make_fits : Make → Bool
make_fits (Row s) = size_fits 4095 s
make_fits (Pool s) = size_fits 65535 s
make_fits (Split l r) = size_fits 4095 l && size_fits 65535 r
make_fits (Nested l m r) = size_fits 4095 l && (size_fits 65535 m && size_fits 4095 r)

abbrev pub row_and_pool : Size → Size → Meaning
row_and_pool l r = join (parts (fresh l each_own) (fresh r all_one))

abbrev pub fresh_of : Make → Meaning
fresh_of (Row s) = fresh s each_own
fresh_of (Pool s) = fresh s all_one
fresh_of (Split l r) = row_and_pool l r
fresh_of (Nested l m r) = join (parts (row_and_pool l m) (fresh r each_own))

abbrev pub made_by : Make → Meaning
made_by k = cond (make_fits k) (fresh_of k) no_cards
