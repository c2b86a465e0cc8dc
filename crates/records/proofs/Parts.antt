-- The records of a file, as a reader hands them out one by one. Assumes nothing.
use Rattle.std.proofs.Common.{◌≡◌, ℕ, suc, ◌+◌, ◌-◌, ◌^◌, ◌<◌, ◌≤◌, List, ◌∷◌, length, map, Option, Some, None, sym, ap, ◌∙◌, subst, arith}
use denote.Ref.{Bor}
use Rattle.std.specs.Iterator.{Yields}
use Rattle.std.specs.List.{range_with_len, enumerate_from}
use Rattle.std.specs.Iterator.Adapters.{enumerate_source, enumerate_count, enumerate_steps}
use Rattle.std.specs.declared.iter.Enumerate.{Enumerate}
use Rattle.std.proofs.lemmas.Iterator.{YieldsList}
use Rattle.std.proofs.lemmas.Iterator.Consumers.{YieldsList-from_shown, YieldsList-from_enumerate, YieldsList-turn, YieldsList-end}
use Rattle.std.proofs.lemmas.List.FromFn.{length-map-range_with_len, get_or-map-range_with_len, length-enumerate_from, get_or-enumerate_from}
use Rattle.records.specs.declared.reader.RecordReader.{RecordReader}
use Rattle.records.specs.Parts.{records_in, part, parts_left, parts_of, HandsOut}

-- what is handed out is the first of the records that are left
onward : (s : RecordReader) (p : Bor (List ℕ)) (t : RecordReader) → HandsOut s (Some p) t → parts_of s ≡ p.now ∷ parts_of t
onward s p t h =
    let bs = s.bytes.now in
    let i = s.place in
    let n = records_in bs - suc i in
    let within : i < records_in bs = h.cases.whole in
    let size : records_in bs - i ≡ suc n = omega arith in
    let next : i + 1 ≡ suc i = omega arith in
    ap (λ (k : ℕ). map (part bs) (range_with_len i k)) size ∙ ap (λ (j : ℕ). part bs i ∷ map (part bs) (range_with_len j n)) next
    ∙ sym (λ j. h.cases.is j ∷ parts_left (h.same j) (h.cases.onward j))

ended : (s t : RecordReader) → HandsOut s None t → length (parts_of s) ≡ 0
ended s t h =
    let past : records_in s.bytes.now ≤ s.place = h.cases.past in
    length-map-range_with_len (part s.bytes.now) s.place (records_in s.bytes.now - s.place) ∙ omega arith

-- s goes over the reader r, which was made of a file
module _ (bs : List ℕ) (s r : RecordReader) (goes : s ≡ r) (file : r.bytes.now ≡ bs) (start : r.place ≡ 0) where
  handed_out : YieldsList HandsOut (λ p. p.now) s (parts_left bs 0)
  handed_out = subst (λ (ps : List (List ℕ)). YieldsList HandsOut (λ p. p.now) s ps) (ap parts_of goes ∙ (λ i. parts_left (file i) (start i)))
      (YieldsList-from_shown HandsOut (λ p. p.now) parts_of ended onward s)

  many : length (parts_left bs 0) ≡ records_in bs
  many = length-map-range_with_len (part bs) 0 (records_in bs - 0) ∙ omega arith

  -- in a loop over the reader: behind the records ps comes the one at their number
  pub handed_next : (ps : List (Bor (List ℕ))) (t : RecordReader) → Yields HandsOut s ps t → (o : Option (Bor (List ℕ))) (u : RecordReader)
      → (p : Bor (List ℕ)) → o ≡ Some p → HandsOut t o u → (length ps < records_in bs) × (p.now ≡ part bs (length ps))
  handed_next ps t y o u p is h =
      let turn = YieldsList-turn handed_out ps t y o u p is h in
      let within : length ps < records_in bs = omega (arith, turn.0, many) in
      (within, turn.1 ∙ get_or-map-range_with_len (part bs) 0 (records_in bs - 0) (length ps) (length ps) p.now (omega arith) (omega arith))

  -- and at its end all have come
  pub handed_all : (ps : List (Bor (List ℕ))) (t : RecordReader) → Yields HandsOut s ps t → (o : Option (Bor (List ℕ))) (u : RecordReader)
      → o ≡ None → HandsOut t o u → length ps ≡ records_in bs
  handed_all ps t y o u is h = (YieldsList-end handed_out ps t y o u is h).1 ∙ many

-- the same where each record comes with its number: n goes over e, which numbers what the reader r hands out
module _ (bs : List ℕ) (r : RecordReader) (file : r.bytes.now ≡ bs) (start : r.place ≡ 0) (n e : Enumerate RecordReader) (goes : n ≡ e) (over : enumerate_source e ≡ r)
    (first : enumerate_count e ≡ 0) where
  source : enumerate_source n ≡ r
  source = ap enumerate_source goes ∙ over

  from_none : enumerate_count n ≡ 0
  from_none = ap enumerate_count goes ∙ first

  left : length (parts_left bs 0) ≡ records_in bs
  left = many bs (enumerate_source n) r source file start

  numbered_out : YieldsList {B = ℕ × List ℕ} (enumerate_steps HandsOut) (λ p. (p.0, p.1.now)) n (enumerate_from 0 (parts_left bs 0))
  numbered_out = YieldsList-from_enumerate (handed_out bs (enumerate_source n) r source file start) from_none

  -- the numbers fit
  pub numbers_fit : records_in bs ≤ 2048 → enumerate_count n + length (parts_of (enumerate_source n)) < 2 ^ 64
  numbers_fit few =
      let here : length (parts_of (enumerate_source n)) ≡ records_in bs = ap length (ap parts_of source ∙ (λ i. parts_left (file i) (start i))) ∙ left in
      omega (arith, from_none)

  pub numbered_next : (ps : List (ℕ × Bor (List ℕ))) (t : Enumerate RecordReader) → Yields (enumerate_steps HandsOut) n ps t
      → (o : Option (ℕ × Bor (List ℕ))) (u : Enumerate RecordReader) (p : ℕ × Bor (List ℕ)) → o ≡ Some p → enumerate_steps HandsOut t o u
      → (length ps < records_in bs) × (p.0 ≡ length ps) × (p.1.now ≡ part bs (length ps))
  numbered_next ps t y o u p is h =
      let turn = YieldsList-turn numbered_out ps t y o u p is h in
      let within : length ps < records_in bs = omega (arith, turn.0, left, length-enumerate_from 0 (parts_left bs 0)) in
      let here = turn.1 ∙ get_or-enumerate_from 0 (parts_left bs 0) (length ps) (p.0, p.1.now) (omega (arith, left)) in (
        within,
        ap (λ (q : ℕ × List ℕ). q.0) here ∙ omega arith,
        ap (λ (q : ℕ × List ℕ). q.1) here ∙ get_or-map-range_with_len (part bs) 0 (records_in bs - 0) (length ps) (length ps) p.1.now (omega arith) (omega arith),
      )

  pub numbered_all : (ps : List (ℕ × Bor (List ℕ))) (t : Enumerate RecordReader) → Yields (enumerate_steps HandsOut) n ps t
      → (o : Option (ℕ × Bor (List ℕ))) (u : Enumerate RecordReader) → o ≡ None → enumerate_steps HandsOut t o u → length ps ≡ records_in bs
  numbered_all ps t y o u is h = (YieldsList-end numbered_out ps t y o u is h).1 ∙ length-enumerate_from 0 (parts_left bs 0) ∙ left
