-- What is known of a file of a fit size, and of one that is judged. Assumes nothing.
use Rattle.std.proofs.Common.{◌≡◌, ℕ, ◌%◌, ◌≤◌, Bool, true, false, cond, eqb, ltb, List, length, Some, None, Ok, Err, Option, Result, refl, subst, arith}
use Rattle.std.proofs.lemmas.Bool.{ltb-false}
use Rattle.records.specs.declared.line.Line.{Line}
use Rattle.records.specs.Parts.{records_in}
use Rattle.rules.specs.declared.judge_fault.JudgeFault.{JudgeFault}
use Rattle.rules.specs.declared.judge_fault.JudgeFault.TheVariants.{FewMarks}
use Rattle.rules.specs.Rules.{largest_file, counted, scanned, unended, if_ended, all_ended, marked, accepted}

sized : (a b : Bool) (n m : ℕ) (f g : JudgeFault) → cond a (Err f) (cond b (Ok m) (Err g)) ≡ Ok n → (a ≡ false) × (n ≡ m)
sized true b n m f g e = let z : ◌≡◌ {A = ℕ} 0 1 = cc in absurd (omega arith)
sized false true n m f g e = (refl, cc)
sized false false n m f g e = let z : ◌≡◌ {A = ℕ} 0 1 = cc in absurd (omega arith)

-- a file of a fit size has that many records
pub size_known : (bs : List ℕ) (n : ℕ) → counted bs ≡ Ok n → (n ≡ records_in bs) × (records_in bs ≤ 2048)
size_known bs n e =
    let p = sized (ltb largest_file (length bs)) (eqb (length bs % 32) 0) n (records_in bs) _ _ e in
    let fit : length bs ≤ 65536 = ltb-false largest_file (length bs) p.0 in
    (p.1, omega arith)

ended_in : (xs ls : List Line) (o : Option ℕ) → if_ended xs o ≡ Ok ls → ◌≡◌ {A = Result (List Line) JudgeFault} (Ok xs) (Ok ls)
ended_in xs ls None e = e
ended_in xs ls (Some i) e = let z : ◌≡◌ {A = ℕ} 0 1 = cc in absurd (omega arith)

all_ended_in : (r : Result (List Line) JudgeFault) (ls : List Line) → all_ended r ≡ Ok ls → r ≡ Ok ls
all_ended_in (Ok xs) ls e = ended_in xs ls (unended xs xs 0) e
all_ended_in (Err f) ls e = e

marked_in : (bs : List ℕ) (marks : ℕ) (r : Result ℕ JudgeFault) (ls : List Line) → marked bs marks r ≡ Ok ls
    → (n : ℕ) × (r ≡ Ok n) × (n ≤ marks) × (scanned bs n ≡ Ok ls)
marked_in bs marks (Ok n) ls e = enough (ltb marks n) refl e
  where
    enough : (b : Bool) → ltb marks n ≡ b → cond b (Err FewMarks) (all_ended (scanned bs n)) ≡ Ok ls
        → (m : ℕ) × (◌≡◌ {A = Result ℕ JudgeFault} (Ok n) (Ok m)) × (m ≤ marks) × (scanned bs m ≡ Ok ls)
    enough true few e = let z : ◌≡◌ {A = ℕ} 0 1 = cc in absurd (omega arith)
    enough false few e = (n, refl, ltb-false marks n few, all_ended_in (scanned bs n) ls e)
marked_in bs marks (Err f) ls e = let z : ◌≡◌ {A = ℕ} 0 1 = cc in absurd (omega arith)

-- a file that is judged
pub record Accepted (bs : List ℕ) (marks : ℕ) (ls : List Line) : Type 0 where
  pub few : records_in bs ≤ 2048
  pub enough : records_in bs ≤ marks
  pub scan : scanned bs (records_in bs) ≡ Ok ls

pub accepted_in : (bs : List ℕ) (marks : ℕ) (ls : List Line) → accepted bs marks ≡ Ok ls → Accepted bs marks ls
accepted_in bs marks ls e =
    let (n, c, le, s) = marked_in bs marks (counted bs) ls e in
    let p = size_known bs n c in
    record { few = p.1; enough = subst (λ k. k ≤ marks) p.0 le; scan = subst (λ k. scanned bs k ≡ Ok ls) p.0 s }
