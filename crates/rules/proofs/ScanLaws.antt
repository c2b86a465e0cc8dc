-- The records of a file, tested one by one, against what the rules say of them. Assumes nothing.
use Rattle.std.proofs.Common.{◌≡◌, ℕ, zero, suc, ◌+◌, ◌-◌, ◌<◌, Bool, true, false, cond, List, [], ◌∷◌, ◌++◌, length, Ok, Err, Result, refl, sym, ap, ◌∙◌, subst, inl, inr, arith}
use Rattle.std.specs.Prelude.{Decides}
use Rattle.std.proofs.lemmas.Bool.{cond-true, cond-false, false_from_ne_true}
use Rattle.std.proofs.lemmas.Bool.Decides.{not_from_Decides}
use Rattle.std.proofs.lemmas.Option.{none-some}
use Rattle.records.specs.declared.line.Line.{Line}
use Rattle.records.specs.declared.fault.RecordFault.{RecordFault}
use Rattle.records.specs.Format.{decoded}
use Rattle.records.specs.Parts.{part}
use Rattle.records.proofs.Fields.{glanced}
use Rattle.rules.specs.declared.judge_fault.JudgeFault.{JudgeFault}
use Rattle.rules.specs.declared.judge_fault.JudgeFault.TheVariants.{TooLong, Record, FewMarks, OutOfPlace, NoEnd}
use Rattle.rules.specs.Rules.{in_place, after_record, next_record, scanned}
use Rattle.rules.specs.Lines.{InPlace, AllInPlace}
use Rattle.rules.specs.FileLaw.{InFile, GoodRecords}
use Rattle.rules.proofs.Snoc.{length_snoc, nth_below, nth_front, nth_last, nth_snoc, snoc_of}
use Rattle.rules.proofs.FieldLaws.{good_from_none}
use Rattle.rules.proofs.PlaceLaws.{in_place_decides, in_place_past, all_more, all_less}

-- record p is the first of the first n that is not good and in place
pub record Spoiled (bs : List ℕ) (n p : ℕ) (f : RecordFault) : Type 0 where
  pub lines : List Line
  pub before : GoodRecords bs p lines
  pub there : p < n
  pub bad : decoded (part bs p) ≡ Err f

pub record Misplaced (bs : List ℕ) (n p : ℕ) : Type 0 where
  pub lines : List Line
  pub before : GoodRecords bs p lines
  pub line : Line
  pub there : p < n
  pub good : decoded (part bs p) ≡ Ok line
  pub misplaced : ¬ InPlace (lines ++ line ∷ []) p

abbrev pub FirstFault : List ℕ → ℕ → JudgeFault → Type 0
FirstFault bs n TooLong = ⊥
FirstFault bs n (Record p) = Spoiled bs n p.place p.fault
FirstFault bs n FewMarks = ⊥
FirstFault bs n (OutOfPlace p) = Misplaced bs n p
FirstFault bs n (NoEnd p) = ⊥

abbrev pub ScanSays : List ℕ → ℕ → Result (List Line) JudgeFault → Type 0
ScanSays bs n (Ok ls) = GoodRecords bs n ls
ScanSays bs n (Err f) = FirstFault bs n f

-- lines that were read have good fields
good_records : (bs : List ℕ) (n : ℕ) (ls : List Line) → length ls ≡ n → InFile bs ls → AllInPlace ls → GoodRecords bs n ls
good_records bs n ls count read places = record {
  count = count;
  read = read;
  rules = record { good = λ i l at. good_from_none l (glanced (part bs i) l (read i l at)).good; in_place = places };
}

module _ (bs : List ℕ) where
  none_good : GoodRecords bs 0 []
  none_good = good_records bs 0 [] refl (λ i l at. absurd (none-some l at)) (λ i. in_place_past [] i (omega arith))

  -- one record more
  one_more : (n : ℕ) (ls : List Line) (l : Line) → GoodRecords bs n ls → decoded (part bs n) ≡ Ok l → InPlace (ls ++ l ∷ []) n
      → GoodRecords bs (suc n) (ls ++ l ∷ [])
  one_more n ls l g is fits = good_records bs (suc n) (ls ++ l ∷ []) (length_snoc ls l ∙ ap suc g.count)
      (λ i m at. elim (nth_snoc ls l m i at) [
        | inl (lt, old) ↦ g.read i m old
        | inr (e, same) ↦ subst (λ k. decoded (part bs k) ≡ Ok m) (sym (e ∙ g.count)) (is ∙ ap Ok same)
      ])
      (all_more ls l g.rules.in_place (subst (InPlace (ls ++ l ∷ [])) (sym g.count) fits))

  one_less : (n : ℕ) (ls : List Line) (l : Line) → length ls ≡ n → GoodRecords bs (suc n) (ls ++ l ∷ []) → GoodRecords bs n ls
  one_less n ls l count g =
      good_records bs n ls count (λ i m at. g.read i m (nth_front ls (l ∷ []) i (nth_below ls i m at) ∙ at)) (all_less ls l g.rules.in_place)

  -- what the scan says of one record more
  step : (n : ℕ) (ls : List Line) → GoodRecords bs n ls → ScanSays bs (suc n) (after_record n ls (decoded (part bs n)))
  step n ls g = read (decoded (part bs n)) refl
    where
      fits : (l : Line) → Decides (in_place ls l) (InPlace (ls ++ l ∷ []) n)
      fits l = subst (λ k. Decides (in_place ls l) (InPlace (ls ++ l ∷ []) k)) g.count (in_place_decides ls l)

      put : (l : Line) (b : Bool) → in_place ls l ≡ b → decoded (part bs n) ≡ Ok l
          → ScanSays bs (suc n) (cond b (Ok (ls ++ l ∷ [])) (Err (OutOfPlace n)))
      put l true e is = one_more n ls l g is ((fits l).0 e)
      put l false e is = record {
        lines = ls;
        before = g;
        line = l;
        there = omega arith;
        good = is;
        misplaced = not_from_Decides (in_place ls l) (fits l) e;
      }

      read : (d : Result Line RecordFault) → decoded (part bs n) ≡ d → ScanSays bs (suc n) (after_record n ls d)
      read (Ok l) is = put l (in_place ls l) refl is
      read (Err f) is = record { lines = ls; before = g; there = omega arith; bad = is }

  later : (n : ℕ) (f : JudgeFault) → FirstFault bs n f → FirstFault bs (suc n) f
  later n TooLong h = h
  later n (Record p) h = record { lines = h.lines; before = h.before; there = omega (arith, h.there); bad = h.bad }
  later n FewMarks h = h
  later n (OutOfPlace p) h = record { lines = h.lines; before = h.before; line = h.line; there = omega (arith, h.there); good = h.good; misplaced = h.misplaced }
  later n (NoEnd p) h = h

  pub scan_says : (n : ℕ) → ScanSays bs n (scanned bs n)
  scan_says zero = none_good
  scan_says (suc n) = next (scanned bs n) (scan_says n)
    where
      next : (r : Result (List Line) JudgeFault) → ScanSays bs n r → ScanSays bs (suc n) (next_record bs n r)
      next (Ok ls) g = step n ls g
      next (Err f) h = later n f h

  -- and the other way round: good records are scanned as their lines
  pub good_scanned : (n : ℕ) (ls : List Line) → GoodRecords bs n ls → scanned bs n ≡ Ok ls
  good_scanned zero [] g = refl
  good_scanned zero (l ∷ ls) g = absurd (omega (arith, g.count))
  good_scanned (suc n) ls g =
      let (ms, l, same, count) = snoc_of ls n g.count in
      let h = subst (GoodRecords bs (suc n)) same g in
      ap (next_record bs n) (good_scanned n ms (one_less n ms l count h)) ∙ last ms l count h ∙ ap Ok (sym same)
    where
      last : (ms : List Line) (l : Line) → length ms ≡ n → GoodRecords bs (suc n) (ms ++ l ∷ []) → after_record n ms (decoded (part bs n)) ≡ Ok (ms ++ l ∷ [])
      last ms l count h =
          ap (after_record n ms) (subst (λ k. decoded (part bs k) ≡ Ok l) count (h.read (length ms) l (nth_last ms l)))
          ∙ cond-true (in_place ms l) _ _ ((in_place_decides ms l).1 (h.rules.in_place (length ms)))

  -- a fault stays
  pub stays : (n m : ℕ) (f : JudgeFault) → scanned bs n ≡ Err f → scanned bs (m + n) ≡ Err f
  stays n zero f e = let q : n ≡ zero + n = omega arith in subst (λ k. scanned bs k ≡ Err f) q e
  stays n (suc m) f e =
      let q : suc (m + n) ≡ suc m + n = omega arith in
      subst (λ k. scanned bs k ≡ Err f) q (ap (next_record bs (m + n)) (stays n m f e))

  fault_scanned : (n p : ℕ) (ls : List Line) (f : JudgeFault) → p < n → GoodRecords bs p ls → after_record p ls (decoded (part bs p)) ≡ Err f → scanned bs n ≡ Err f
  fault_scanned n p ls f lt g e =
      let q : (n - suc p) + suc p ≡ n = omega arith in
      subst (λ k. scanned bs k ≡ Err f) q (stays (suc p) (n - suc p) f (ap (next_record bs p) (good_scanned p ls g) ∙ e))

  pub spoiled_scanned : (n p : ℕ) (f : RecordFault) → Spoiled bs n p f → scanned bs n ≡ Err (Record (record { fault = f; place = p }))
  spoiled_scanned n p f s = fault_scanned n p s.lines _ s.there s.before (ap (after_record p s.lines) s.bad)

  pub misplaced_scanned : (n p : ℕ) → Misplaced bs n p → scanned bs n ≡ Err (OutOfPlace p)
  misplaced_scanned n p s =
      fault_scanned n p s.lines (OutOfPlace p) s.there s.before
      (ap (after_record p s.lines) s.good
      ∙ cond-false (in_place s.lines s.line) _ _ (false_from_ne_true (in_place s.lines s.line)
      (λ e. s.misplaced (subst (InPlace (s.lines ++ s.line ∷ [])) s.before.count ((in_place_decides s.lines s.line).0 e)))))
