use Rattle.std.proofs.Common.{sym, ◌∙◌, arith}
use Rattle.records.proofs.Letters.{read_written}
use Rattle.records.proofs.line.Line.encode.Goals as goal

pub returns-clause-back : goal.returns-clause-back
returns-clause-back c = λ _.
    read_written c.copy_from_slice.new.self c.args.self.now c.in_ok-checked.field-0 (omega arith) (c.copy_from_slice.ensures.after ∙ c.to_record-record.ensures.value)
    c.to_record-record.ensures.back (sym c.in_ok-checked.was ∙ c.checked.ensures)
