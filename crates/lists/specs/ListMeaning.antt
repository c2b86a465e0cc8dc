-- The meaning of a shelf of lists. Assumes nothing.
--     list_meaning s      what the shelf means
use Rattle.std.specs.Prelude.{vec_items}
use Rattle.shelf.specs.Meaning.{Meaning}
use Rattle.lists.specs.declared.list_shelf.ListShelf.{ListShelf}
use Rattle.lists.specs.Lists.{lists_of}

abbrev pub list_meaning : ListShelf → Meaning
list_meaning s = lists_of (vec_items s.lists) s.width s.places
