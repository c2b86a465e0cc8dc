-- The shelf that a session works with. Assumes nothing.
--     WorksWith k o     o is a shelf just made, of the make k
--     After c o         after the command c the session works with o: a shelf just made, where one
--                       was asked for; of what a question leaves, nothing is said
use Rattle.std.specs.Prelude.{◌≡◌, Option, MatchOption}
use Rattle.office.specs.declared.command.Command.{Command}
use Rattle.office.specs.declared.command.Command.TheVariants.{Shelf, Ask}
use Rattle.scripts.specs.declared.makes.Made.{Made}
use Rattle.scripts.specs.declared.makes.Make.{Make}
use Rattle.scripts.specs.Makes.{made_by}
use Rattle.scripts.specs.Shelves.{shelf_meaning}

abbrev pub WorksWith : Make → Option Made → Type 0
WorksWith k o = MatchOption o ⊥ (λ s. shelf_meaning s ≡ made_by k)

abbrev pub After : Command → Option Made → Type 0
After (Shelf k) o = WorksWith k o
After (Ask q) o = Unit {0}
