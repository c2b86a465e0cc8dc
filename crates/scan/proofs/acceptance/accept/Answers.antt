use Rattle.std.proofs.Common.{rules, Err}
use Rattle.rules.specs.declared.judge_fault.JudgeFault.TheVariants.{FewMarks}
use Rattle.scan.proofs.Tested.{accepted_law}
use Rattle.scan.proofs.acceptance.accept.Goals as goal

-- each answer is the one that the tests give, and so it obeys the law
pub returns-in_err-count-clause-law : goal.returns-in_err-count-clause-law
returns-in_err-count-clause-law c = accepted_law c.args.file.now c.args.marks c.from_residual.result (search rules)

pub returns-then-marks-count-clause-law : goal.returns-then-marks-count-clause-law
returns-then-marks-count-clause-law c = accepted_law c.args.file.now c.args.marks (Err FewMarks) (search rules)

pub returns-in_err-scan-clause-law : goal.returns-in_err-scan-clause-law
returns-in_err-scan-clause-law c = accepted_law c.args.file.now c.args.marks c.from_residual-in_err-scan.result (search rules)

pub returns-clause-law : goal.returns-clause-law
returns-clause-law c = accepted_law c.args.file.now c.args.marks c.map_or.result (search rules)
