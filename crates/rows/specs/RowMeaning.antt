-- The meaning of a row's drawers, and of the memory that they are made from. Assumes nothing.
--     row_meaning s           what a shelf over the drawers s means
--     row_fits mem size       a row shelf of this size fits into the memory
--     row_made mem size       what is made of it: the fresh row if it fits, else the shelf of no cards
use Rattle.std.specs.Prelude.{◌*◌, Bool, ◌&&◌, vec_items, vec_len, nat_le, slice_index}
use Rattle.rows.specs.declared.row.RowMemory.{RowMemory}
use Rattle.rows.specs.declared.row.RowDrawers.{RowDrawers}
use Rattle.shelf.specs.Meaning.{Meaning}
use Rattle.shelf.specs.declared.size.Size.{Size}
use Rattle.drawers.specs.Places.{version_in}
use Rattle.drawers.specs.Fresh.{made, each_own, size_fits}
use Rattle.rows.specs.Rows.{row_of}

unfoldable pub row_meaning : RowDrawers → Meaning
row_meaning s = row_of s.size.cards s.size.width s.size.places (λ c. slice_index (vec_items s.used) c) (version_in s.places s.size.width)

abbrev pub row_fits : RowMemory → Size → Bool
row_fits mem size =
    size_fits 4095 size && (nat_le size.cards (vec_len mem.used) && nat_le (size.cards * size.places) (vec_len mem.places.written))

abbrev pub row_made : RowMemory → Size → Meaning
row_made mem size = made (row_fits mem size) size each_own
