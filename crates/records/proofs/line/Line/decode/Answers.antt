use Rattle.std.proofs.Common.{ℕ, List, length, arith}
use Rattle.std.specs.List.{between}
use Rattle.records.specs.declared.kind.Kind.TheVariants.{Read, Writ, Done, Gone}
use Rattle.records.proofs.Letters.{letters_apart, read_behind}
use Rattle.records.proofs.line.Line.decode.Goals as goal

-- the bytes behind the letters
abbrev behind : List ℕ → List ℕ
behind bs = between 4 (length bs) bs

pub returns-in-82 : goal.returns-in-82
returns-in-82 c =
    let bs = c.args.bytes.now in
    let apart = letters_apart bs 82 69 65 68 (omega arith) (omega arith) (omega arith) (omega arith) (omega arith) in
    let read = read_behind Read bs (behind bs) c.of_fields.result c.checked.result (omega arith) apart c.of_fields.ensures.value c.of_fields.ensures.back c.checked.ensures in
    record { value = read.value; back = read.back }

pub returns-in-87 : goal.returns-in-87
returns-in-87 c =
    let bs = c.args.bytes.now in
    let apart = letters_apart bs 87 82 73 84 (omega arith) (omega arith) (omega arith) (omega arith) (omega arith) in
    let read = read_behind Writ bs (behind bs) c.of_fields-in-87.result c.checked-in-87.result (omega arith) apart c.of_fields-in-87.ensures.value c.of_fields-in-87.ensures.back c.checked-in-87.ensures in
    record { value = read.value; back = read.back }

pub returns-in-68 : goal.returns-in-68
returns-in-68 c =
    let bs = c.args.bytes.now in
    let apart = letters_apart bs 68 79 78 69 (omega arith) (omega arith) (omega arith) (omega arith) (omega arith) in
    let read = read_behind Done bs (behind bs) c.of_fields-in-68.result c.checked-in-68.result (omega arith) apart c.of_fields-in-68.ensures.value c.of_fields-in-68.ensures.back c.checked-in-68.ensures in
    record { value = read.value; back = read.back }

pub returns-in-71 : goal.returns-in-71
returns-in-71 c =
    let bs = c.args.bytes.now in
    let apart = letters_apart bs 71 79 78 69 (omega arith) (omega arith) (omega arith) (omega arith) (omega arith) in
    let read = read_behind Gone bs (behind bs) c.of_fields-in-71.result c.checked-in-71.result (omega arith) apart c.of_fields-in-71.ensures.value c.of_fields-in-71.ensures.back c.checked-in-71.ensures in
    record { value = read.value; back = read.back }
