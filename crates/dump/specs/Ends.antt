-- What the writing of the lines leads to. Assumes nothing.
--     judged_at r                 a record's line, or its fault as the judge's
--     end_line r                  the last line: how many records there were, or the refusal
use Rattle.std.specs.Prelude.{ℕ, List, Ok, Err, Result}
use Rattle.records.specs.declared.line.Line.{Line}
use Rattle.records.specs.declared.fault.PlacedFault.{PlacedFault}
use Rattle.rules.specs.declared.judge_fault.JudgeFault.{JudgeFault}
use Rattle.rules.specs.Rules.{judged}
use Rattle.history.specs.Texts.{with_newline, refused_line}
use Rattle.dump.specs.declared.counts.Counts.{Counts}
use Rattle.dump.specs.Dump.{counts_text}

abbrev pub judged_at : Result Line PlacedFault → Result Line JudgeFault
judged_at (Ok l) = Ok l
judged_at (Err p) = Err (judged p)

abbrev pub end_line : Result Counts JudgeFault → List ℕ
end_line (Ok cs) = with_newline (counts_text cs)
end_line (Err f) = refused_line f
