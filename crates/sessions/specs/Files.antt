-- The journal as a history file. Assumes nothing.
--     file_of ls                  the records of the lines ls, one behind the other
--     first_fault ls              the first bad field of the first of the lines ls that has one
--     filed ls                    what making a file of the lines ls answers: their records, or, where
--                                 a line has a bad field, the first fault
use Rattle.std.specs.Prelude.{ℕ, List, [], ◌∷◌, ◌++◌, Some, None, Ok, Err, Option, Result}
use Rattle.std.specs.Option.{option_or}
use Rattle.records.specs.declared.line.Line.{Line}
use Rattle.records.specs.Format.{fault_of, encoded}
use Rattle.records.specs.declared.fault.RecordFault.{RecordFault}

abbrev pub file_of : List Line → List ℕ
file_of [] = []
file_of (l ∷ ls) = encoded l ++ file_of ls

abbrev pub first_fault : List Line → Option RecordFault
first_fault [] = None
first_fault (l ∷ ls) = option_or (fault_of l) (first_fault ls)

abbrev pub unless_fault : Option RecordFault → List ℕ → Result (List ℕ) RecordFault
unless_fault None bs = Ok bs
unless_fault (Some f) bs = Err f

abbrev pub filed : List Line → Result (List ℕ) RecordFault
filed ls = unless_fault (first_fault ls) (file_of ls)
