use Rattle.std.proofs.Common.{◌++◌, List, get_or, replicate, is_err, vec_items, sym, ap, ◌∙◌, subst, arith}
use Rattle.std.proofs.lemmas.Result.{err_from_is_err_and}
use Rattle.records.specs.declared.line.Line.{Line}
use Rattle.transactions.specs.Journal.{InFile}
use Rattle.sessions.specs.Files.{file_of, unless_fault, filed}
use Rattle.sessions.proofs.Filing.{bad_field, first_at, wrote, no_line, made_more, made_all, made_filed, made_reads}
use Rattle.sessions.proofs.file.history_file.Goals as goal

pub returns-in_err-encode-clause-answer : goal.returns-in_err-encode-clause-answer
returns-in_err-encode-clause-answer c =
    let ls = c.memory.inside.lines.now in
    let i = c.loop-line.line-index in
    let f = c.in_err-encode.field-0.0 in
    let bad = bad_field (get_or ls i no_line) f (sym c.in_err-encode.was ∙ c.encode.ensures.value) in
    let first = first_at ls i no_line f c.loop-line-test.true c.loop-line.invariant.made.good bad in
    let p = err_from_is_err_and c.from_residual.result c.from_residual.ensures.1 in
    rw (p.1, p.2) (sym (ap (λ o. unless_fault o (file_of ls)) first) ∙ ap filed c.memory.view_is)

pub loop-line-preserved : goal.loop-line-preserved
loop-line-preserved c =
    let ls = c.memory.inside.lines.now in
    let i = c.loop-line.line-index in
    let fine = ap is_err c.in_ok-encode.was in
    let (bytes, back) = wrote (get_or ls i no_line) c.encode.result (replicate 32 0) c.encode.new.out fine c.encode.ensures.bytes c.encode.ensures.back in
    let added = rw c.unwrap.ensures at c.extend_from_slice.ensures.items in
    let longer = rw c.unwrap.ensures at c.extend_from_slice.ensures.len in
    record {
      made =
          made_more ls i no_line (vec_items c.loop-line.bytes) (vec_items c.extend_from_slice.new.self) c.encode.result c.loop-line-test.true
          c.loop-line.invariant.made c.encode.ensures.value fine back (added ∙ ap (λ zs. vec_items c.loop-line.bytes ++ zs) bytes);
      size = omega (arith, longer, c.encode.auto.out, c.loop-line.invariant.size);
      room = omega (arith, c.loop-line.invariant.room, c.extend_from_slice.ensures.capacity);
    }

pub returns : goal.returns
returns c =
    let ls = c.memory.inside.lines.now in
    let bs = vec_items c.loop-line.bytes in
    let made = made_all ls c.loop-line.line-index bs (omega arith) c.loop-line.invariant.made in
    record {
      answer = made_filed ls bs made ∙ ap filed c.memory.view_is;
      reads = subst (λ (zs : List Line). InFile bs zs) c.memory.view_is (made_reads ls bs made);
    }
