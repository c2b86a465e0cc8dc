-- The tests of a file's records, in their order, and of its ends. Assumes nothing.
use Rattle.std.proofs.Common.{◌≡◌, ℕ, zero, suc, ◌+◌, ◌-◌, ◌<◌, ◌≤◌, Bool, true, false, cond, List, [], ◌∷◌, ◌++◌, length, is_ok, Some, None, Option, MatchOption, Ok, Err, Result, sym, refl, ap, ◌∙◌, subst, ⊎_elim, arith, length-append}
use Rattle.std.specs.List.{slice_get}
use Rattle.std.specs.Result.{result_ok, result_err}
use Rattle.std.specs.Option.{option_to_list}
use Rattle.std.proofs.str.Laws.{order}
use Rattle.records.specs.declared.line.Line.{Line}
use Rattle.records.specs.declared.fault.RecordFault.{RecordFault}
use Rattle.records.specs.Format.{decoded}
use Rattle.records.specs.Parts.{part}
use Rattle.rules.specs.declared.judge_fault.JudgeFault.{JudgeFault}
use Rattle.rules.specs.declared.judge_fault.JudgeFault.TheVariants.{OutOfPlace}
use Rattle.rules.specs.Rules.{some, ends, in_place, after_record, next_record, scanned, unended, accepted}
use Rattle.rules.proofs.Snoc.{nth_below, nth_front, nth_last}
use Rattle.rules.specs.FileLaw.{FileLaw}
use Rattle.rules.proofs.ScanLaws.{stays}
use Rattle.rules.proofs.FileLaws.{file_law}
use Rattle.scan.specs.Scanning.{Readable, lines_of, Scanned, answered}
use Rattle.scan.proofs.Scans.{read_as_line}

module _ (bs : List ℕ) where
  -- one record more: what the tests of the first n and of the next give
  next_is : (n : ℕ) → Scanned bs n → scanned bs (suc n) ≡ after_record n (lines_of bs n) (decoded (part bs n))
  next_is n h = ap (next_record bs n) h.lines

  -- the next record passes its tests
  pub one_scanned : (n : ℕ) → Scanned bs n → answered (after_record n (lines_of bs n) (decoded (part bs n))) ≡ Ok tt → Scanned bs (suc n)
  one_scanned n h ok = record {
    good = λ i lt. ⊎_elim (λ (below : i < n). h.good i below)
        (λ (ge : n ≤ i). let same : n ≡ i = omega arith in subst (λ k. is_ok (decoded (part bs k)) ≡ true) same (passed (decoded (part bs n)) ok)) (order i n);
    lines = next_is n h ∙ taken_in (decoded (part bs n)) ok;
  }
    where
      passed : (r : Result Line RecordFault) → answered (after_record n (lines_of bs n) r) ≡ Ok tt → is_ok r ≡ true
      passed (Ok l) e = refl
      passed (Err f) e = let z : ◌≡◌ {A = ℕ} 0 1 = cc in absurd (omega arith)

      in_or_out : (l : Line) (b : Bool) → answered (cond b (Ok (lines_of bs n ++ l ∷ [])) (Err (OutOfPlace n))) ≡ Ok tt
          → cond b (Ok (lines_of bs n ++ l ∷ [])) (Err (OutOfPlace n)) ≡ Ok (lines_of bs n ++ l ∷ [])
      in_or_out l true e = refl
      in_or_out l false e = let z : ◌≡◌ {A = ℕ} 0 1 = cc in absurd (omega arith)

      taken_in : (r : Result Line RecordFault) → answered (after_record n (lines_of bs n) r) ≡ Ok tt
          → after_record n (lines_of bs n) r ≡ Ok (lines_of bs n ++ option_to_list (result_ok r))
      taken_in (Ok l) e = in_or_out l (in_place (lines_of bs n) l) e
      taken_in (Err f) e = let z : ◌≡◌ {A = ℕ} 0 1 = cc in absurd (omega arith)

  stopped : (n count : ℕ) (f : JudgeFault) → n < count → scanned bs (suc n) ≡ Err f → answered (scanned bs count) ≡ Err f
  stopped n count f lt e =
      let q : (count - suc n) + suc n ≡ count = omega arith in
      ap answered (subst (λ k. scanned bs k ≡ Err f) q (stays bs (suc n) (count - suc n) f e))

  was_error : (r : Result (List Line) JudgeFault) (f : JudgeFault) → answered r ≡ Err f → r ≡ Err f
  was_error (Ok ls) f e = let z : ◌≡◌ {A = ℕ} 0 1 = cc in absurd (omega arith)
  was_error (Err g) f e = cc

  -- the next record does not pass its tests
  pub refused_at : (n count : ℕ) (f : JudgeFault) → n < count → Scanned bs n → answered (after_record n (lines_of bs n) (decoded (part bs n))) ≡ Err f
      → answered (scanned bs count) ≡ Err f
  refused_at n count f lt h e = stopped n count f lt (next_is n h ∙ was_error (after_record n (lines_of bs n) (decoded (part bs n))) f e)

pub length_lines : (bs : List ℕ) (n : ℕ) → Readable bs n → length (lines_of bs n) ≡ n
length_lines bs zero h = refl
length_lines bs (suc n) h = pushed (decoded (part bs n)) (h n (omega arith)) (length_lines bs n (λ i lt. h i (omega arith)))
  where
    pushed : (r : Result Line RecordFault) → is_ok r ≡ true → length (lines_of bs n) ≡ n → length (lines_of bs n ++ option_to_list (result_ok r)) ≡ suc n
    pushed (Ok l) ok e = length-append (lines_of bs n) (l ∷ []) ∙ omega (arith, e)
    pushed (Err f) ok e = let z : ◌≡◌ {A = ℕ} 0 1 = cc in absurd (omega arith)

pub nth_lines : (bs : List ℕ) (n i : ℕ) (l : Line) → Readable bs n → i < n → decoded (part bs i) ≡ Ok l → slice_get (lines_of bs n) i ≡ Some l
nth_lines bs zero i l h lt e = absurd (omega arith)
nth_lines bs (suc n) i l h lt e =
    let before : Readable bs n = λ k below. h k (omega arith) in
    ⊎_elim
    (λ (below : i < n).
    let old = nth_lines bs n i l before below e in
    nth_front (lines_of bs n) (option_to_list (result_ok (decoded (part bs n)))) i (nth_below (lines_of bs n) i l old) ∙ old)
    (λ (ge : n ≤ i).
    let same : n ≡ i = omega arith in
    let here : decoded (part bs n) ≡ Ok l = subst (λ k. decoded (part bs k) ≡ Ok l) (sym same) e in
    let long : length (lines_of bs n) ≡ i = length_lines bs n before ∙ same in
    subst (λ k. slice_get (lines_of bs (suc n)) k ≡ Some l) long
    (subst (λ r. slice_get (lines_of bs n ++ option_to_list (result_ok r)) (length (lines_of bs n)) ≡ Some l) (sym here) (nth_last (lines_of bs n) l)))
    (order i n)

-- each line below i has its transaction's end among `all`
abbrev pub EndedBelow : List Line → List Line → ℕ → Type 0
EndedBelow ls all i = (j : ℕ) (l : Line) → j < i → slice_get ls j ≡ Some l → some (ends l.transaction.0) all ≡ true

pub unended_at : (ls all : List Line) (i k : ℕ) (l : Line) → EndedBelow ls all i → slice_get ls i ≡ Some l → some (ends l.transaction.0) all ≡ false
    → unended ls all k ≡ Some (k + i)
unended_at [] all i k l h e q = let z : ◌≡◌ {A = ℕ} 0 1 = cc in absurd (omega arith)
unended_at (x ∷ ls) all zero k l h e q =
    let same : x ≡ l = cc in
    let here : some (ends x.transaction.0) all ≡ false = subst (λ y. some (ends y.transaction.0) all ≡ false) (sym same) q in
    let at : k ≡ k + 0 = omega arith in
    ap (λ b. cond b (unended ls all (suc k)) (Some k)) here ∙ ap (λ n. Some n) at
unended_at (x ∷ ls) all (suc i) k l h e q =
    let at : suc k + i ≡ k + suc i = omega arith in
    ap (λ b. cond b (unended ls all (suc k)) (Some k)) (h 0 x (omega arith) refl)
    ∙ unended_at ls all i (suc k) l (λ j m lt r. h (suc j) m (omega arith) r) e q ∙ ap (λ n. Some n) at

pub none_unended : (ls all : List Line) (k : ℕ) → EndedBelow ls all (length ls) → unended ls all k ≡ None
none_unended [] all k h = refl
none_unended (x ∷ ls) all k h =
    ap (λ b. cond b (unended ls all (suc k)) (Some k)) (h 0 x (omega arith) refl)
    ∙ none_unended ls all (suc k) (λ j m lt r. h (suc j) m (omega arith) r)

-- whether the transaction of record i has its end among the first n
abbrev pub HasEnd : List ℕ → ℕ → Bool → ℕ → Type 0
HasEnd bs n has i = (l : Line) → decoded (part bs i) ≡ Ok l → some (ends l.transaction.0) (lines_of bs n) ≡ has

ended_below : (bs : List ℕ) (n i : ℕ) → Readable bs n → i ≤ n → ((k : ℕ) → 0 ≤ k → k < i → HasEnd bs n true k) → EndedBelow (lines_of bs n) (lines_of bs n) i
ended_below bs n i good few each = λ j l lt e.
    let (m, is) = read_as_line (decoded (part bs j)) (good j (omega arith)) in
    let there = nth_lines bs n j m good (omega arith) is in
    let same : m ≡ l = cc in
    subst (λ y. some (ends y.transaction.0) (lines_of bs n) ≡ true) same (each j (omega arith) lt m is)

-- the first record whose transaction has no end is the one that the rules name
pub first_open : (bs : List ℕ) (n : ℕ) (r : Option ℕ) → Readable bs n
    → MatchOption r ((k : ℕ) → 0 ≤ k → k < n → HasEnd bs n true k) (λ i. (0 ≤ i) × (i < n) × HasEnd bs n false i × ((k : ℕ) → 0 ≤ k → k < i → HasEnd bs n true k))
    → r ≡ unended (lines_of bs n) (lines_of bs n) 0
first_open bs n None good all =
    sym (none_unended (lines_of bs n) (lines_of bs n) 0 (ended_below bs n (length (lines_of bs n)) good (omega (arith, length_lines bs n good))
    (λ k le lt. all k le (omega (arith, length_lines bs n good)))))
first_open bs n (Some i) good (le, lt, here, before) =
    let (l, is) = read_as_line (decoded (part bs i)) (good i lt) in
    let at : i ≡ 0 + i = omega arith in
    ap (λ k. Some k) at
    ∙ sym (unended_at (lines_of bs n) (lines_of bs n) i 0 l (ended_below bs n i good (omega arith) before) (nth_lines bs n i l good lt is) (here l is))

-- the law of a file, of any answer that the tests give
same_fault : (r : Result (List Line) JudgeFault) → result_err (answered r) ≡ result_err r
same_fault (Ok ls) = refl
same_fault (Err f) = refl

pub accepted_law : (bs : List ℕ) (marks : ℕ) (r : Result (Unit {0}) JudgeFault) → r ≡ answered (accepted bs marks) → FileLaw bs marks (result_err r)
accepted_law bs marks r e = subst (FileLaw bs marks) (sym (ap result_err e ∙ same_fault (accepted bs marks))) (file_law bs marks)
