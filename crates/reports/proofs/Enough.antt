-- What is read of a file is enough of it, and the marks that are lent are enough for it. Assumes nothing.
use Rattle.std.proofs.Common.{◌≡◌, ℕ, zero, suc, ◌<◌, ◌≤◌, ◌≢◌, ◌⊎◌, Bool, true, false, cond, ltb, List, [], ◌++◌, length, take, Some, None, Ok, Err, IfSome, Option, Result, sym, refl, ap, ◌∙◌, subst, inl, inr, arith}
use Rattle.std.specs.Io.KnownBytes.{Appends}
use Rattle.std.specs.Option.{option_map}
use Rattle.std.proofs.lemmas.Bool.{cases_lt, cases_Bool, lt-ltb, ltb-true}
use Rattle.std.proofs.lemmas.List.{length-take-le, take_all}
use Rattle.records.specs.declared.line.Line.{Line}
use Rattle.records.specs.declared.fault.RecordFault.{RecordFault}
use Rattle.records.specs.Format.{decoded}
use Rattle.records.specs.Parts.{part}
use Rattle.rules.specs.declared.judge_fault.JudgeFault.{JudgeFault}
use Rattle.rules.specs.declared.judge_fault.JudgeFault.TheVariants.{TooLong, Record, FewMarks, OutOfPlace, NoEnd}
use Rattle.rules.specs.Rules.{largest_file, counted, in_place, after_record, next_record, scanned, unended, if_ended, all_ended, marked, accepted}
use Rattle.rules.proofs.Accepted.{size_known}
use Rattle.reports.specs.Reading.{read_at_most, IsReadFrom}
use Rattle.reports.specs.Printed.{most_records, IsLineOf, IsPrinted, PrintsFrom}

-- what a reader gives up to a limit, put behind nothing
pub first_bytes : (known : Option (List ℕ)) (n m : ℕ) (new old : List ℕ) → n ≡ m → old ≡ [] → IfSome (option_map (take n) known) (λ xs. new ≡ old ++ xs)
    → IfSome known (λ xs. new ≡ take m xs)
first_bytes None n m new old e f h = tt
first_bytes (Some xs) n m new old e f h = h ∙ ap (λ (ys : List ℕ). ys ++ take n xs) f ∙ ap (λ k. take k xs) e

too_long : (bs : List ℕ) → largest_file < length bs → counted bs ≡ Err TooLong
too_long bs lt = rw (lt-ltb largest_file (length bs) lt) refl

-- a file is read whole, or is seen to be too long
pub read_enough : (bs : List ℕ) → (take read_at_most bs ≡ bs) ⊎ ((counted bs ≡ Err TooLong) × (counted (take read_at_most bs) ≡ Err TooLong))
read_enough bs = elim (cases_lt largest_file (length bs)) [
  | inl long ↦ inr (too_long bs long, too_long (take read_at_most bs) (omega (arith, length-take-le read_at_most bs (omega arith))))
  | inr fits ↦ inl (take_all read_at_most bs (omega arith))
]

pub accepted_read : (bs : List ℕ) (marks : ℕ) → accepted (take read_at_most bs) marks ≡ accepted bs marks
accepted_read bs marks = elim (read_enough bs) [
  | inl whole ↦ ap (λ xs. accepted xs marks) whole
  | inr (long, cut) ↦ ap (marked (take read_at_most bs) marks) cut ∙ sym (ap (marked bs marks) long)
]

-- the line of what was read is that of the file
pub printed_read : (known old new : Option (List ℕ)) (read at line written : List ℕ) → IsReadFrom known read → at ≡ read → IsPrinted at line
    → written ≡ line → Appends old new written → PrintsFrom known old new
printed_read None old new read at line written e f p is w = tt
printed_read (Some bs) old new read at line written e f p is w =
    let same : accepted at most_records ≡ accepted bs most_records = ap (λ xs. accepted xs most_records) (f ∙ e) ∙ accepted_read bs most_records in
    (line, subst (λ a. IsLineOf a line) same p, subst (Appends old new) is w)

abbrev IsFew : JudgeFault → Bool
IsFew TooLong = false
IsFew (Record p) = false
IsFew FewMarks = true
IsFew (OutOfPlace i) = false
IsFew (NoEnd i) = false

-- no fault, or another than too few marks
abbrev lacks_marks : Result (List Line) JudgeFault → Bool
lacks_marks (Ok ls) = false
lacks_marks (Err f) = IsFew f

placed_known : (b : Bool) (ls : List Line) (i : ℕ) → lacks_marks (cond b (Ok ls) (Err (OutOfPlace i))) ≡ false
placed_known true ls i = refl
placed_known false ls i = refl

after_known : (i : ℕ) (earlier : List Line) (r : Result Line RecordFault) → lacks_marks (after_record i earlier r) ≡ false
after_known i earlier (Ok l) = placed_known (in_place earlier l) _ i
after_known i earlier (Err f) = refl

next_known : (bs : List ℕ) (n : ℕ) (r : Result (List Line) JudgeFault) → lacks_marks r ≡ false → lacks_marks (next_record bs n r) ≡ false
next_known bs n (Ok earlier) h = after_known n earlier (decoded (part bs n))
next_known bs n (Err f) h = h

scan_known : (bs : List ℕ) (n : ℕ) → lacks_marks (scanned bs n) ≡ false
scan_known bs zero = refl
scan_known bs (suc n) = next_known bs n (scanned bs n) (scan_known bs n)

ended_known : (ls : List Line) (o : Option ℕ) → lacks_marks (if_ended ls o) ≡ false
ended_known ls None = refl
ended_known ls (Some i) = refl

all_known : (r : Result (List Line) JudgeFault) → lacks_marks r ≡ false → lacks_marks (all_ended r) ≡ false
all_known (Ok ls) h = ended_known ls (unended ls ls 0)
all_known (Err f) h = h

sized_known : (a b : Bool) (n : ℕ) (f : JudgeFault) → IsFew f ≡ false → (r : Result ℕ JudgeFault) → r ≡ cond a (Err TooLong) (cond b (Ok n) (Err f)) → (g : JudgeFault) → r ≡ Err g → IsFew g ≡ false
sized_known true b n f h r e g is = let same : TooLong ≡ g = cc in ap IsFew (sym same)
sized_known false true n f h r e g is = let z : ◌≡◌ {A = ℕ} 0 1 = cc in absurd (omega arith)
sized_known false false n f h r e g is = let same : f ≡ g = cc in ap IsFew (sym same) ∙ h

enough_in : (bs : List ℕ) (marks : ℕ) (r : Result ℕ JudgeFault) → counted bs ≡ r → ((n : ℕ) → r ≡ Ok n → n ≤ marks) → lacks_marks (marked bs marks r) ≡ false
enough_in bs marks (Ok n) e h = elim (cases_Bool (ltb marks n)) [
  | inl few ↦ absurd (omega (arith, ltb-true marks n few, h n refl))
  | inr enough ↦ rw enough (all_known (scanned bs n) (scan_known bs n))
]
enough_in bs marks (Err f) e h = sized_known _ _ _ _ refl (counted bs) refl f e

pub marks_enough : (bs : List ℕ) → accepted bs most_records ≢ Err FewMarks
marks_enough bs e =
    let known = enough_in bs most_records (counted bs) refl (λ n c. let (is, few) = size_known bs n c in omega arith) in
    let z : true ≡ false = sym (ap lacks_marks e) ∙ known in
    let y : ◌≡◌ {A = ℕ} 0 1 = cc in
    absurd (omega arith)
