use Rattle.std.proofs.Common.{ℕ, ◌<◌, get_or, arith}
use Rattle.records.proofs.Bytes.{four_stand, eight_stand, fields_back, Stands}
use Rattle.records.proofs.line.Line.of_fields.Goals as goal

pub returns : goal.returns
returns c =
    let rest = c.args.rest.now in
    let small : (i : ℕ) → get_or rest i 0 < 256 = λ i. (c.type_inv.rest i).fits in
    let transaction : Stands rest 0 4 c.from_be_bytes.result = four_stand rest c.field.result 0 _ small (omega arith) c.field.ensures c.from_be_bytes.ensures in
    let card : Stands rest 4 4 c.from_be_bytes-2.result = four_stand rest c.field-2.result 4 _ small (omega arith) c.field-2.ensures c.from_be_bytes-2.ensures in
    let writer : Stands rest 8 4 c.from_be_bytes-3.result = four_stand rest c.field-3.result 8 _ small (omega arith) c.field-3.ensures c.from_be_bytes-3.ensures in
    let first : Stands rest 12 8 c.from_be_bytes-4.result = eight_stand rest c.field-4.result 12 _ small (omega arith) c.field-4.ensures c.from_be_bytes-4.ensures in
    let second : Stands rest 20 8 c.from_be_bytes-5.result = eight_stand rest c.field-5.result 20 _ small (omega arith) c.field-5.ensures c.from_be_bytes-5.ensures in
    record {
      value = λ i. record {
        kind = c.args.kind;
        transaction = record { 0 = transaction.value i };
        card = record { 0 = card.value i };
        writer = record { 0 = writer.value i };
        value = record { first = first.value i; second = second.value i };
      };
      back = fields_back rest c.requires transaction card writer first second;
    }
