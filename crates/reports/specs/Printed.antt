-- What program judge prints of a file. Assumes nothing.
--     most_records                how many records a file has at most
--     IsLineOf a bs               bs is the line of what the rules say of a file: of its fault, else of
--                                 a verdict that is right in each letter
--     IsPrinted file bs           bs is the line that is printed of the file
--     PrintsFrom known old new    of the bytes that are known to come the line was written: what the
--                                 writer held is old, and what it holds is new
use Rattle.std.specs.Prelude.{◌≡◌, ℕ, ◌/◌, List, Ok, Err, IfSome, Option, Result}
use Rattle.std.specs.Io.KnownBytes.{Appends}
use Rattle.records.specs.declared.line.Line.{Line}
use Rattle.records.specs.Format.{record_size}
use Rattle.rules.specs.declared.judge_fault.JudgeFault.{JudgeFault}
use Rattle.rules.specs.Rules.{largest_file, accepted}
use Rattle.verdicts.specs.declared.verdict.Verdict.{Verdict}
use Rattle.verdicts.specs.Verdicts.{Judged}
use Rattle.history.specs.Texts.{refused_line, verdict_line}

abbrev pub most_records : ℕ
most_records = largest_file / record_size

abbrev pub IsLineOf : Result (List Line) JudgeFault → List ℕ → Type 0
IsLineOf (Err f) bs = bs ≡ refused_line f
IsLineOf (Ok ls) bs = (v : Verdict) × (bs ≡ verdict_line v) × Judged ls v

abbrev pub IsPrinted : List ℕ → List ℕ → Type 0
IsPrinted file bs = IsLineOf (accepted file most_records) bs

abbrev pub PrintsFrom : (known old new : Option (List ℕ)) → Type 0
PrintsFrom known old new = IfSome known (λ file. (bs : List ℕ) × IsPrinted file bs × Appends old new bs)
