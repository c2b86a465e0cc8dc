use Rattle.std.proofs.Common.{◌≡◌, ℕ, suc, ◌<◌, List, ◌∷◌, [], length, Some, Option, Result, sym, ap, ◌∙◌, subst, arith, length-append}
use denote.Ref.{Bor}
use Rattle.std.specs.Iterator.{Yields}
use Rattle.std.proofs.lemmas.Result.{err_from_is_err_and}
use Rattle.records.specs.declared.reader.RecordReader.{RecordReader}
use Rattle.records.specs.Format.{decoded}
use Rattle.records.specs.Parts.{records_in, part, HandsOut}
use Rattle.records.proofs.Parts.{handed_next, handed_all}
use Rattle.rules.specs.declared.judge_fault.JudgeFault.{JudgeFault}
use Rattle.rules.specs.Rules.{after_record}
use Rattle.scan.specs.Scanning.{Scanned, lines_of, answered}
use Rattle.scan.proofs.Tested.{one_scanned, refused_at}
use Rattle.scan.proofs.told.Told.scan.Goals as goal

-- the record p that was handed out is record m of the file ws, which is bs
record Next (bs ws : List ℕ) (m : ℕ) (p : List ℕ) : Type 0 where
  within : m < records_in ws
  is : p ≡ part ws m
  more : m < records_in bs
  tested : (r : Result (Unit {0}) JudgeFault) → r ≡ answered (after_record m (lines_of ws m) (decoded p)) → r ≡ answered (after_record m (lines_of bs m) (decoded (part bs m)))

next : (bs ws : List ℕ) (m : ℕ) (s reader : RecordReader) → s ≡ reader → reader.bytes.now ≡ bs → reader.place ≡ 0 → (ps : List (Bor (List ℕ))) (t : RecordReader) → Yields HandsOut s ps t
    → (r : Option (Bor (List ℕ))) (u : RecordReader) (p : Bor (List ℕ)) → r ≡ Some p → HandsOut t r u → ws ≡ bs → m ≡ length ps → Next bs ws m p.now
next bs ws m s reader goes file start ps t y r u p some hands same at =
    let (lt, here) = handed_next bs s reader goes file start ps t y r u p some hands in
    let more : m < records_in bs = subst (λ k. k < records_in bs) (sym at) lt in
    let is : p.now ≡ part ws m = here ∙ ap (part bs) (sym at) ∙ ap (λ xs. part xs m) (sym same) in
    record {
      within = subst (λ xs. m < records_in xs) (sym same) more;
      is = is;
      more = more;
      tested = λ a e. e ∙ ap (λ q. answered (after_record m (lines_of ws m) (decoded q))) is ∙ ap (λ xs. answered (after_record m (lines_of xs m) (decoded (part xs m)))) same;
    }

pub take-requires : goal.take-requires
take-requires c =
    let n = next c.args.self.now.file.now c.loop-bytes.self.file.now c.loop-bytes.self.count c.into_iter-bytes-iterator.result c.new-bytes-items.result c.into_iter-bytes-iterator.ensures.into_iter_gives c.new-bytes-items.ensures.bytes c.new-bytes-items.ensures.place
    c.loop-bytes.yielded c.loop-bytes.bytes-iterator c.loop-bytes.yielded_by c.next.result c.next.new.self c.in-Some.bytes c.in-Some.is c.next.ensures.steps c.loop-bytes.invariant.2 c.loop-bytes.invariant.3 in
    record { within = n.within; next = n.is }

pub loop-bytes-preserved : goal.loop-bytes-preserved
loop-bytes-preserved c =
    let bs = c.args.self.now.file.now in
    let m = c.loop-bytes.self.count in
    let n = next bs c.loop-bytes.self.file.now m c.into_iter-bytes-iterator.result c.new-bytes-items.result c.into_iter-bytes-iterator.ensures.into_iter_gives c.new-bytes-items.ensures.bytes c.new-bytes-items.ensures.place
    c.loop-bytes.yielded c.loop-bytes.bytes-iterator c.loop-bytes.yielded_by c.next.result c.next.new.self c.in-Some.bytes c.in-Some.is c.next.ensures.steps c.loop-bytes.invariant.2 c.loop-bytes.invariant.3 in
    let onward : c.take.new.self.count ≡ suc m = c.in_ok-take.ensures.onward in
    let longer = length-append c.loop-bytes.yielded (c.in-Some.bytes ∷ []) in (
      tt,
      tt,
      c.take.ensures.same ∙ c.loop-bytes.invariant.2,
      omega (arith, onward, longer, c.loop-bytes.invariant.3),
      subst (Scanned bs) (sym onward) (one_scanned bs m c.loop-bytes.invariant.4 (sym (n.tested c.take.result c.take.ensures.answer) ∙ c.in_ok-take.was)),
    )

pub returns-in_err-take : goal.returns-in_err-take
returns-in_err-take c =
    let bs = c.args.self.now.file.now in
    let m = c.loop-bytes.self.count in
    let n = next bs c.loop-bytes.self.file.now m c.into_iter-bytes-iterator.result c.new-bytes-items.result c.into_iter-bytes-iterator.ensures.into_iter_gives c.new-bytes-items.ensures.bytes c.new-bytes-items.ensures.place
    c.loop-bytes.yielded c.loop-bytes.bytes-iterator c.loop-bytes.yielded_by c.next.result c.next.new.self c.in-Some.bytes c.in-Some.is c.next.ensures.steps c.loop-bytes.invariant.2 c.loop-bytes.invariant.3 in
    let p = err_from_is_err_and c.from_residual.result c.from_residual.ensures.1 in
    rw (p.1, p.2)
    (refused_at bs m (records_in bs) c.in_err-take.field-0.0 n.more c.loop-bytes.invariant.4 (sym (n.tested c.take.result c.take.ensures.answer) ∙ c.in_err-take.was))

pub returns : goal.returns
returns c =
    let bs = c.args.self.now.file.now in
    let all = handed_all bs c.into_iter-bytes-iterator.result c.new-bytes-items.result c.into_iter-bytes-iterator.ensures.into_iter_gives c.new-bytes-items.ensures.bytes c.new-bytes-items.ensures.place
    c.loop-bytes.yielded c.loop-bytes.bytes-iterator c.loop-bytes.yielded_by c.next.result c.next.new.self c.in-None.is c.next.ensures.steps in
    let full = c.loop-bytes.invariant.3 ∙ all in
    (c.loop-bytes.invariant.2, full, subst (Scanned bs) full c.loop-bytes.invariant.4)
