-- Every example holds: one proof over the list.
--     start                       the books after set-up
--     computed e, wanted e        what a computation gives for the example e; what it has to give for e to hold
use Rattle.std.proofs.Common.{◌≡◌, ℕ, ◌%◌, ◌≤◌, Bool, true, false, cond, eqb, leb, ltb, List, [], ◌∷◌, ◌++◌, map, length, take, drop, take-append-drop, Some, Ok, Err, Option, Result, sym, refl, ap, ◌∙◌, subst, arith}
use Rattle.std.specs.Fmt.{digits}
use Rattle.std.specs.List.{AllByRecursion}
use Rattle.std.proofs.lemmas.Bool.{le-ltb, leb-true}
use Rattle.records.specs.declared.fault.RecordFault.TheVariants as faults
use Rattle.records.specs.declared.line.Line.{Line}
use Rattle.records.specs.Format.{record_size}
use Rattle.verdicts.specs.declared.verdict.Verdict.{Verdict}
use Rattle.rules.specs.declared.judge_fault.JudgeFault.{JudgeFault}
use Rattle.rules.specs.declared.judge_fault.JudgeFault.TheVariants.{TooLong, Record, FewMarks}
use Rattle.records.specs.Parts.{records_in}
use Rattle.rules.specs.Rules.{accepted, marked, largest_file, scanned, all_ended}
use Rattle.transactions.specs.State.{State}
use Rattle.transactions.specs.Calls.{after_set_up}
use Rattle.examples.specs.Days.{Said, fresh_shelf, new_books}
use Rattle.history.specs.Texts.{with_newline, refused_line, verdict_line}
use Rattle.reports.specs.Printed.{most_records, IsLineOf}
use Rattle.examples.specs.Examples.{Example, file, bad_file, day, bytes, Accepts, Holds, examples}
use Rattle.examples.proofs.Verdicts.{found, judged}
use Rattle.examples.proofs.Places.{Tidy}
use Rattle.examples.proofs.Runs.{answers, expected}
use Rattle.examples.proofs.Fresh.{fresh_sound}
use Rattle.examples.proofs.AnyPlaces.{Kin, every_run}

abbrev start : State
start = after_set_up new_books (fresh_shelf 3)

data Outcome : Type 0 where
  of_file : (records : ℕ) → (within : Bool) → Result (List Line) JudgeFault → Option Verdict → (printed : List ℕ) → Outcome
  of_bad_file : (records : ℕ) → (within : Bool) → Result (List Line) JudgeFault → (printed : List ℕ) → Outcome
  of_day : List Said → Outcome

abbrev computed : Example → Outcome
computed (file ls v text) = of_file (records_in (bytes ls)) (leb (length ls) most_records) (accepted (bytes ls) (length ls)) (found ls) (verdict_line v)
computed (bad_file ls f text) = of_bad_file (records_in (bytes ls)) (leb (length ls) most_records) (accepted (bytes ls) (length ls)) (refused_line f)
computed (day ss) = of_day (answers start (fresh_shelf 3) ss)

abbrev wanted : Example → Outcome
wanted (file ls v text) = of_file (length ls) true (Ok ls) (Some v) (with_newline text)
wanted (bad_file ls f text) = of_bad_file (length ls) true (Err f) (with_newline text)
wanted (day ss) = of_day (expected ss)

-- nobody is open
nobody : Kin 0 start.places start.places
nobody =
    let tidy : Tidy 0 start.places = record { once = λ n. omega arith; none = λ n h. refl } in
    record { tidy = tidy; other_tidy = tidy; same = λ n. refl; spare_same = refl }

-- as many marks as there are records are enough
enough_marks : (bs : List ℕ) (n marks : ℕ) → records_in bs ≤ n → records_in bs ≤ marks → accepted bs marks ≡ accepted bs n
enough_marks bs n marks h k = either (ltb largest_file (length bs)) (eqb (length bs % record_size) 0)
  where
    either : (long whole : Bool)
        → marked bs marks (cond long (Err TooLong) (cond whole (Ok (records_in bs)) (Err (Record (record { fault = faults.Length; place = records_in bs })))))
        ≡ marked bs n (cond long (Err TooLong) (cond whole (Ok (records_in bs)) (Err (Record (record { fault = faults.Length; place = records_in bs })))))
    either true whole = refl
    either false true =
        ap (λ few. cond few (Err FewMarks) (all_ended (scanned bs (records_in bs)))) (le-ltb marks (records_in bs) k ∙ sym (le-ltb n (records_in bs) h))
    either false false = refl

holds : (e : Example) → computed e ≡ wanted e → Holds e
holds (file ls v text) e =
    let records : records_in (bytes ls) ≡ length ls = cc in
    let few : length ls ≤ most_records = leb-true (length ls) most_records cc in
    let fine : accepted (bytes ls) (length ls) ≡ Ok ls = cc in
    let so : found ls ≡ Some v = cc in
    let line : verdict_line v ≡ with_newline text = cc in
    let right = judged ls v so in
    let all : Accepts ls (Ok ls) = λ marks h. enough_marks (bytes ls) (length ls) marks (omega arith) (omega arith) ∙ fine in
    (all, right, subst (λ a. IsLineOf a (with_newline text)) (sym (all most_records few)) (v, sym line, right))
holds (bad_file ls f text) e =
    let records : records_in (bytes ls) ≡ length ls = cc in
    let few : length ls ≤ most_records = leb-true (length ls) most_records cc in
    let fault : accepted (bytes ls) (length ls) ≡ Err f = cc in
    let line : refused_line f ≡ with_newline text = cc in
    let all : Accepts ls (Err f) = λ marks h. enough_marks (bytes ls) (length ls) marks (omega arith) (omega arith) ∙ fault in
    (all, subst (λ a. IsLineOf a (with_newline text)) (sym (all most_records few)) (sym line))
holds (day ss) e =
    let so : answers start (fresh_shelf 3) ss ≡ expected ss = cc in
    (fresh_sound 3 (omega arith), refl, every_run ss start (fresh_shelf 3) start.places start.places nobody so)

all_hold : (es : List Example) → map computed es ≡ map wanted es → AllByRecursion Holds es
all_hold [] same = tt
all_hold (e ∷ es) same =
    let here : computed e ≡ wanted e = cc in
    let rest : map computed es ≡ map wanted es = cc in
    (holds e here, all_hold es rest)

both_hold : (es fs : List Example) → AllByRecursion Holds es → AllByRecursion Holds fs → AllByRecursion Holds (es ++ fs)
both_hold [] fs h k = k
both_hold (e ∷ es) fs h k = (h.0, both_hold es fs h.1 k)

-- the list is computed in two parts, each within the steps that a declaration may take
first_shown : AllByRecursion Holds (take 4 examples)
unfolding digits
first_shown = all_hold (take 4 examples) refl

later_shown : AllByRecursion Holds (drop 4 examples)
later_shown = all_hold (drop 4 examples) refl

pub shown : AllByRecursion Holds examples
shown = subst (AllByRecursion Holds) (take-append-drop 4 examples) (both_hold (take 4 examples) (drop 4 examples) first_shown later_shown)
