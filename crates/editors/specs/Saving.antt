-- Saving a journal as a history file. Assumes nothing.
--     is_saveable ls          the lines ls are no more than a history file may have records, and
--                             none has a bad field
--     Writing F E             how a closure of the type F is called at bytes, with an error E
--     Saved g write ls b      b says whether the lines ls were saved: no where they cannot be, else
--                             what `write` gave of their file
use Rattle.std.specs.Prelude.{◌≡◌, ℕ, ◌⊎◌, List, length, Result, is_ok, nat_le}
use Rattle.std.specs.Prelude.{Bool, true, false, ◌&&◌}
use Rattle.std.specs.Borrow.{Bor}
use Rattle.std.specs.Fn.{Once, FnOnceReturnsAt}
use Rattle.records.specs.declared.line.Line.{Line}
use Rattle.sessions.specs.Files.{file_of, filed}

abbrev pub is_saveable : List Line → Bool
is_saveable ls = nat_le (length ls) 2048 && is_ok (filed ls)

abbrev pub Writing : Type 0 → Type 0 → Type 1
Writing F E = Once F (Bor (List ℕ) × Unit {0}) (Result (Unit {0}) E)

abbrev pub Saved : {F E : Type 0} → Writing F E → F → List Line → Bool → Type 0
Saved {F} {E} g write ls saved =
    ((is_saveable ls ≡ false) × (saved ≡ false))
    ⊎ ((is_saveable ls ≡ true)
    × ((r : Result (Unit {0}) E) × FnOnceReturnsAt g write (file_of ls) r × (saved ≡ is_ok r)))
