use Rattle.reports.proofs.Enough.{marks_enough}
use Rattle.reports.proofs.line.judge_line.Goals as goal

pub returns-clause-enough : goal.returns-clause-enough
returns-clause-enough c = marks_enough c.args.file.now
