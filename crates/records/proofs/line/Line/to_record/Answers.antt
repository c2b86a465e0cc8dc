use Rattle.std.proofs.Common.{◌∙◌, arith}
use Rattle.records.proofs.Bytes.{line_back}
use Rattle.records.proofs.Letters.{written_in_turn}
use Rattle.records.proofs.line.Line.to_record.Goals as goal

pub returns : goal.returns
returns c =
    let l = c.args.self.now in
    record {
      value = written_in_turn l c.copy_from_slice.new.self c.copy_from_slice-2.new.self c.copy_from_slice-3.new.self c.copy_from_slice-4.new.self c.copy_from_slice-5.new.self c.copy_from_slice-6.new.self
          (c.copy_from_slice.ensures.after ∙ c.letters.ensures)
          (c.copy_from_slice-2.ensures.after ∙ c.to_be_bytes.ensures)
          (c.copy_from_slice-3.ensures.after ∙ c.to_be_bytes-2.ensures)
          (c.copy_from_slice-4.ensures.after ∙ c.to_be_bytes-3.ensures)
          (c.copy_from_slice-5.ensures.after ∙ c.to_be_bytes-4.ensures)
          (c.copy_from_slice-6.ensures.after ∙ c.to_be_bytes-5.ensures);
      back = line_back l (omega arith) (omega arith) (omega arith) (omega arith) (omega arith);
    }
