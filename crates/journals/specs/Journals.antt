-- What the journal means. What lines that are not written hold is no part of this. Assumes nothing.
--     Log                 how many lines there is memory for, and the lines written
--     log_of j            the meaning of the journal j
--     log_room l          how many more lines it takes
--     with_line l x, with_lines l xs      l with one line more, or several
use Rattle.std.specs.Prelude.{ℕ, ◌-◌, List, [], ◌∷◌, ◌++◌, length, vec_items}
use Rattle.records.specs.declared.line.Line.{Line}
use Rattle.journals.specs.declared.journal.Journal.{Journal}

pub record Log : Type 0 where
  pub size : ℕ
  pub lines : List Line

abbrev pub log_of : Journal → Log
log_of j = record { size = j.size; lines = vec_items j.lines }

abbrev pub log_room : Log → ℕ
log_room l = l.size - length l.lines

abbrev pub with_line : Log → Line → Log
with_line l x = record { size = l.size; lines = l.lines ++ (x ∷ []) }

abbrev pub with_lines : Log → List Line → Log
with_lines l xs = record { size = l.size; lines = l.lines ++ xs }
