use Rattle.std.proofs.Common.{◌≡◌, ℕ, ◌≤◌, List, length, replicate, Ok, sym, ap, ◌∙◌, subst, arith}
use Rattle.records.specs.declared.line.Line.{Line}
use Rattle.records.specs.Parts.{records_in}
use Rattle.rules.specs.Rules.{scanned}
use Rattle.rules.proofs.Accepted.{accepted_in}
use Rattle.verdicts.specs.declared.verdict.Verdict.{Verdict}
use Rattle.verdicts.specs.Verdicts.{Judged}
use Rattle.answers.proofs.answering.judged_by.Goals as goal
use Rattle.answers.proofs.answering.judged_by.Goals.{then-len-marks, else-len-marks}

pub returns : goal.returns
returns g c =
    let bs = c.args.file.now in
    let right : records_in bs ≤ 2048 → records_in bs ≤ length c.args.marks.now → (ls : List Line) → scanned bs (records_in bs) ≡ Ok ls → Judged ls c.if-len-marks.verdict =
    λ few enough ls scan.
    elim c.if-len-marks.branch [
      | then-len-marks w ↦ subst (λ (v : Verdict). Judged ls v) (sym w.verdict-is) (w.of_entries-verdict.ensures ls
          (rw w.as_slice.ensures.value ((c.index-entries.ensures.indexed few).told ls scan)))
      | else-len-marks w ↦ absurd (omega (arith, enough, c.index-entries.ensures.few.0, w.if-len-marks.false, c.len.ensures.value))
    ] in
    record {
      verdict = λ ls h. let a = accepted_in bs (length c.args.marks.now) ls h in right a.few a.enough ls a.scan;
      good = right;
      clear = c.fill.ensures.after (λ y e. e) ∙ ap (λ n. replicate {A = ℕ} n 0) c.if-len-marks.auto.marks;
    }
