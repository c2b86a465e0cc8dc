use Rattle.std.proofs.Common.{◌≡◌, ℕ, ◌+◌, ◌-◌, List, ◌∷◌, [], ◌++◌, length, Ok, Err, string_bytes, sym, ap, ◌∙◌, subst, inl, arith, length-append}
use Rattle.std.proofs.lemmas.Result.{err_from_is_err_and}
use Rattle.records.specs.Parts.{records_in}
use Rattle.records.proofs.Parts.{numbers_fit, numbered_next, numbered_all}
use Rattle.records.specs.Words.{line_text}
use Rattle.rules.specs.Rules.{counted}
use Rattle.rules.proofs.Accepted.{size_known}
use Rattle.dump.specs.Dump.{none_counted, total, text_from, text_of_size, dump_text}
use Rattle.history.specs.Texts.{with_newline}
use Rattle.dump.proofs.Onward.{total_more, onward, stops, read_there}
use Rattle.dump.proofs.text.write_lines.Goals as goal

pub loop-place-init : goal.loop-place-init
loop-place-init c =
    let bs = c.args.file.now in
    let n = c.in_ok-whole_records.field-0 in
    let size : counted bs ≡ Ok n = sym c.whole_records.ensures ∙ c.in_ok-whole_records.was in
    let (many, few) = size_known bs n size in
    let all : records_in bs - 0 ≡ n = omega arith in
    let zeros = c.default-counts.ensures in
    let none : c.default-counts.result ≡ none_counted = (λ z. record { reads = zeros.0 z; writs = zeros.1.0 z; dones = zeros.1.1.0 z; gones = zeros.1.1.1 z }) in
    let text : text_from bs 0 (records_in bs - 0) c.default-counts.result ≡ dump_text bs =
    (λ z. text_from bs 0 (all z) (none z)) ∙ sym (ap (text_of_size bs) size) in
    let fit = numbers_fit bs c.new.result c.new.ensures.bytes c.new.ensures.place c.into_iter-place-iterator.result c.enumerate-place-items.result c.into_iter-place-iterator.ensures.into_iter_gives
    c.enumerate-place-items.ensures.source c.enumerate-place-items.ensures.count few in
    ((tt, tt, inl fit), tt, ap total none, few, omega arith, c.requires.room, ap (λ (xs : List ℕ). string_bytes c.args.text.now ++ xs) text)

pub add-requires : goal.add-requires
add-requires c =
    let bs = c.args.file.now in
    let (within, at, is) = numbered_next bs c.new.result c.new.ensures.bytes c.new.ensures.place c.into_iter-place-iterator.result c.enumerate-place-items.result c.into_iter-place-iterator.ensures.into_iter_gives
    c.enumerate-place-items.ensures.source c.enumerate-place-items.ensures.count c.loop-place.yielded c.loop-place.place-iterator c.loop-place.yielded_by c.next.result c.next.new.self
    (c.in-Some.place, c.in-Some.part) c.in-Some.is c.next.ensures.steps in
    omega (arith, c.loop-place.invariant.2, c.loop-place.invariant.3)

pub returns-in_err-line : goal.returns-in_err-line
returns-in_err-line c =
    let bs = c.args.file.now in
    let i = length c.loop-place.yielded in
    let f = c.in_err-line.field-0.0 in
    let (within, at, is) = numbered_next bs c.new.result c.new.ensures.bytes c.new.ensures.place c.into_iter-place-iterator.result c.enumerate-place-items.result c.into_iter-place-iterator.ensures.into_iter_gives
    c.enumerate-place-items.ensures.source c.enumerate-place-items.ensures.count c.loop-place.yielded c.loop-place.place-iterator c.loop-place.yielded_by c.next.result c.next.new.self
    (c.in-Some.place, c.in-Some.part) c.in-Some.is c.next.ensures.steps in
    let read = read_there bs i c.in-Some.place c.in-Some.part.now c.line_at.result (Err f) at is c.line_at.ensures c.in_err-line.was in
    let p = err_from_is_err_and c.from_residual-in_err-line.result c.from_residual-in_err-line.ensures.1 in
    let done = stops bs i (records_in bs) c.loop-place.counts within f (string_bytes c.loop-place.text) _ read c.loop-place.invariant.6 in
    record { bytes = rw (p.1, p.2) done; room = omega (arith, c.loop-place.invariant.3, c.loop-place.invariant.4, c.loop-place.invariant.5, within) }

pub loop-place-preserved : goal.loop-place-preserved
loop-place-preserved c =
    let bs = c.args.file.now in
    let i = length c.loop-place.yielded in
    let l = c.in_ok-line.line in
    let (within, at, is) = numbered_next bs c.new.result c.new.ensures.bytes c.new.ensures.place c.into_iter-place-iterator.result c.enumerate-place-items.result c.into_iter-place-iterator.ensures.into_iter_gives
    c.enumerate-place-items.ensures.source c.enumerate-place-items.ensures.count c.loop-place.yielded c.loop-place.place-iterator c.loop-place.yielded_by c.next.result c.next.new.self
    (c.in-Some.place, c.in-Some.part) c.in-Some.is c.next.ensures.steps in
    let read = read_there bs i c.in-Some.place c.in-Some.part.now c.line_at.result (Ok l) at is c.line_at.ensures c.in_ok-line.was in
    let w : string_bytes c.push_line.new.text ≡ string_bytes c.loop-place.text ++ with_newline (line_text l) =
    c.push_line.ensures.bytes ∙ ap (λ (x : List ℕ). string_bytes c.loop-place.text ++ with_newline x) (c.as_str.ensures.value ∙ c.text.ensures) in
    let more = onward bs i (records_in bs) c.loop-place.counts within l c.add.new.self (string_bytes c.loop-place.text) (string_bytes c.push_line.new.text) _ read c.add.ensures w c.loop-place.invariant.6 in
    let count : total c.add.new.self ≡ i + 1 = ap total c.add.ensures ∙ total_more c.loop-place.counts l.kind ∙ ap (λ (n : ℕ). n + 1) c.loop-place.invariant.2 in
    let longer : i + 1 ≡ length (c.loop-place.yielded ++ (c.in-Some.place, c.in-Some.part) ∷ []) = sym (length-append c.loop-place.yielded ((c.in-Some.place, c.in-Some.part) ∷ [])) in (
      c.in-Some.ensures.goes.keeps,
      tt,
      count ∙ longer,
      c.loop-place.invariant.3,
      omega (arith, longer, c.push_line.ensures.len, c.as_str.ensures.fits, c.loop-place.invariant.4),
      omega (arith, c.push_line.ensures.capacity, c.loop-place.invariant.5),
      subst (λ k. string_bytes c.push_line.new.text ++ text_from bs k (records_in bs - k) c.add.new.self ≡ string_bytes c.args.text.now ++ dump_text bs) longer more,
    )

pub returns : goal.returns
returns c =
    let bs = c.args.file.now in
    let all = numbered_all bs c.new.result c.new.ensures.bytes c.new.ensures.place c.into_iter-place-iterator.result c.enumerate-place-items.result c.into_iter-place-iterator.ensures.into_iter_gives
    c.enumerate-place-items.ensures.source c.enumerate-place-items.ensures.count c.loop-place.yielded c.loop-place.place-iterator c.loop-place.yielded_by c.next.result c.next.new.self
    c.in-None.is c.next.ensures.steps in
    let none : records_in bs - length c.loop-place.yielded ≡ 0 = omega arith in
    record {
      bytes = ap (λ m. string_bytes c.loop-place.text ++ text_from bs (length c.loop-place.yielded) m c.loop-place.counts) (sym none) ∙ c.loop-place.invariant.6;
      room = omega (arith, all, c.loop-place.invariant.3, c.loop-place.invariant.4, c.loop-place.invariant.5);
    }

pub push_line-requires : goal.push_line-requires
push_line-requires c =
    let bs = c.args.file.now in
    let (within, at, is) = numbered_next bs c.new.result c.new.ensures.bytes c.new.ensures.place c.into_iter-place-iterator.result c.enumerate-place-items.result c.into_iter-place-iterator.ensures.into_iter_gives
    c.enumerate-place-items.ensures.source c.enumerate-place-items.ensures.count c.loop-place.yielded c.loop-place.place-iterator c.loop-place.yielded_by c.next.result c.next.new.self
    (c.in-Some.place, c.in-Some.part) c.in-Some.is c.next.ensures.steps in
    omega (arith, within, c.as_str.ensures.fits, c.loop-place.invariant.3, c.loop-place.invariant.4, c.loop-place.invariant.5)
