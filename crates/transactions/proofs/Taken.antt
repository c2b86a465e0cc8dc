-- A file of lines that obey the rules is taken by the judge's own scan.
use Rattle.std.proofs.Common.{◌≡◌, ℕ, List, length, Ok, refl, ap, ◌∙◌}
use Rattle.records.specs.declared.line.Line.{Line}
use Rattle.rules.specs.Rules.{scanned, if_ended, all_ended}
use Rattle.rules.proofs.ScanLaws.{good_scanned}
use Rattle.rules.proofs.EndLaws.{all_end_none}
use Rattle.transactions.specs.Journal.{FileRules, InFile}

pub file_taken : (bs : List ℕ) (ls : List Line) → FileRules ls → InFile bs ls → all_ended (scanned bs (length ls)) ≡ Ok ls
file_taken bs ls r h =
    ap all_ended (good_scanned bs (length ls) ls (record { count = refl; read = h; rules = r.lines })) ∙ ap (if_ended ls) (all_end_none ls r.ended)
