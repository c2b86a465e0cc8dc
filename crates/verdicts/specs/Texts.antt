-- What a program prints of a verdict. Assumes nothing.
--     yes_or_no b                 a letter for an answer
--     verdict_text v              as ACA=Y CONS=N WCF=Y
use Rattle.std.specs.Prelude.{ℕ, Bool, cond, List, ◌++◌, codes}
use Rattle.verdicts.specs.declared.verdict.Verdict.{Verdict}

abbrev pub yes_or_no : Bool → List ℕ
yes_or_no b = cond b (codes "Y") (codes "N")

abbrev pub verdict_text : Verdict → List ℕ
verdict_text v = codes "ACA=" ++ (yes_or_no v.aca ++ (codes " CONS=" ++ (yes_or_no v.cons ++ (codes " WCF=" ++ yes_or_no v.wcf))))
