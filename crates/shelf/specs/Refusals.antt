-- The refusals of shelves, each with its number. Assumes nothing.
--     cause_number        why a putting is refused: 1 no such card; 2 a list of counts that is longer than the shelf's width or
--                         has a count above 65,535; 3 no free place in the drawer. The first that holds is told
--     check_number        why a shelf is not made: 1 it does not fit
use Rattle.std.specs.Prelude.{ℕ}
use Rattle.shelf.specs.declared.refusal.PutRefusal.{PutRefusal}
use Rattle.shelf.specs.declared.refusal.PutRefusal.TheVariants.{NoCard, BadStamp, NoPlace}
use Rattle.shelf.specs.declared.refusal.CheckRefusal.{CheckRefusal}
use Rattle.shelf.specs.declared.refusal.CheckRefusal.TheVariants.{NoFit}

abbrev pub cause_number : PutRefusal → ℕ
cause_number NoCard = 1
cause_number BadStamp = 2
cause_number NoPlace = 3

abbrev pub check_number : CheckRefusal → ℕ
check_number NoFit = 1
