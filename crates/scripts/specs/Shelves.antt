-- What a shelf that a script asked for means. Assumes nothing.
--     split_meaning s     what a split of a row and a pool means
--     shelf_meaning s     what the shelf s means, of whatever make it is
use Rattle.drawers.specs.declared.placed.PlacedShelf.{PlacedShelf}
use Rattle.pools.specs.declared.pool.PoolDrawer.{PoolDrawer}
use Rattle.rows.specs.declared.row.RowDrawers.{RowDrawers}
use Rattle.splits.specs.declared.split.SplitShelf.{SplitShelf}
use Rattle.pools.specs.PoolMeaning.{pool_meaning}
use Rattle.rows.specs.RowMeaning.{row_meaning}
use Rattle.scripts.specs.declared.makes.Made.{Made}
use Rattle.scripts.specs.declared.makes.Made.TheVariants.{Row, Pool, Split, Nested}
use Rattle.shelf.specs.Meaning.{Meaning}
use Rattle.splits.specs.Split.{parts, join}

abbrev pub split_meaning : {g h : _} → SplitShelf (PlacedShelf RowDrawers) (PlacedShelf PoolDrawer) g h → Meaning
split_meaning s = join (parts (row_meaning s.left.drawers) (pool_meaning s.right.drawers))

abbrev pub shelf_meaning : Made → Meaning
shelf_meaning (Row s) = row_meaning s.drawers
shelf_meaning (Pool s) = pool_meaning s.drawers
shelf_meaning (Split s) = split_meaning s
shelf_meaning (Nested s) =
    join (parts (split_meaning s.left) (row_meaning s.right.drawers))
