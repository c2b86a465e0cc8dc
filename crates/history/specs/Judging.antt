-- What the judge answers. Assumes nothing.
--     Answers a r                 r is the answer to a file: the fault, where there is one, else a verdict that is right in each letter
use Rattle.std.specs.Prelude.{◌≡◌, List, Ok, Err, Result}
use Rattle.records.specs.declared.line.Line.{Line}
use Rattle.rules.specs.declared.judge_fault.JudgeFault.{JudgeFault}
use Rattle.verdicts.specs.declared.verdict.Verdict.{Verdict}
use Rattle.verdicts.specs.Verdicts.{Judged}

abbrev pub Answers : Result (List Line) JudgeFault → Result Verdict JudgeFault → Type 0
Answers (Err f) r = r ≡ Err f
Answers (Ok ls) r = (v : Verdict) × (r ≡ Ok v) × Judged ls v
