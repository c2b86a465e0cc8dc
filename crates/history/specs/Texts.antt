-- What a program prints of a fault, and of a verdict as a line. Assumes nothing.
--     refused f                   a fault, as a program prints it
--     refused_text r              its number and record place, as REFUSED 23 AT 5
--     with_newline xs             a printed line
--     verdict_line v, refused_line f      the lines of a verdict and of a refusal
use Rattle.std.specs.Prelude.{ℕ, List, [], ◌∷◌, ◌++◌, codes, decimal}
use Rattle.rules.specs.declared.judge_fault.JudgeFault.{JudgeFault}
use Rattle.rules.specs.Rules.{judge_number, judge_place}
use Rattle.verdicts.specs.declared.verdict.Verdict.{Verdict}
use Rattle.verdicts.specs.Texts.{verdict_text}
use Rattle.history.specs.declared.refused.Refused.{Refused}

abbrev pub refused : JudgeFault → Refused
refused f = record { fault = f }

abbrev pub refused_text : Refused → List ℕ
refused_text r = codes "REFUSED " ++ (decimal (judge_number r.fault) ++ (codes " AT " ++ decimal (judge_place r.fault)))

abbrev pub with_newline : List ℕ → List ℕ
with_newline xs = xs ++ 10 ∷ []

abbrev pub verdict_line : Verdict → List ℕ
verdict_line v = with_newline (verdict_text v)

abbrev pub refused_line : JudgeFault → List ℕ
refused_line f = with_newline (refused_text (refused f))
