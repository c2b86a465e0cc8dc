-- The law of a history file: when it is granted, and what each refusal says of it. It speaks of
-- lines and places, and repeats no step of the tests, which Rules.antt defines. Assumes nothing.
--     FitSize bs                  the file has at most its size, in whole records
--     Admitted bs marks           its size is fit, and it has no more records than there are marks
--     InFile bs ls                its first records read as the lines ls, so they have good fields
--     GoodRecords bs n ls         its first n records read as the lines ls, which obey LineRules
--     IsHistory bs                all its records read as lines, which obey FileRules
--     CutAt bs p                  its last record, p, is cut short
--     BadFieldAt bs p f           the records before p obey the rules, and p has a bad field
--     OutOfPlaceAt bs p           the records before p obey the rules, p is good but out of place
--     UnendedAt bs p              all records obey LineRules, and p is the first record of the
--                                 earliest transaction with no end
--     FileLaw bs marks o          o is the fault of the file, none where it is granted
use Rattle.std.specs.Prelude.{◌≡◌, ℕ, ◌%◌, ◌<◌, ◌≤◌, ◌↔◌, List, [], ◌∷◌, ◌++◌, length}
use Rattle.std.specs.Prelude.{Some, None, Ok, Option}
use Rattle.records.specs.declared.line.Line.{Line}
use Rattle.records.specs.declared.fault.RecordFault.{RecordFault}
use Rattle.records.specs.declared.fault.RecordFault.TheVariants as faults
use Rattle.records.specs.Format.{record_size, decoded, fault_number}
use Rattle.records.specs.Parts.{records_in, part}
use Rattle.rules.specs.declared.judge_fault.JudgeFault.{JudgeFault}
use Rattle.rules.specs.declared.judge_fault.JudgeFault.TheVariants.{TooLong, Record, FewMarks}
use Rattle.rules.specs.declared.judge_fault.JudgeFault.TheVariants.{OutOfPlace, NoEnd}
use Rattle.rules.specs.Rules.{largest_file}
use Rattle.rules.specs.Fields.{BadField}
use Rattle.rules.specs.Lines.{At, InPlace, LineRules, FirstUnended, FileRules}

pub record FitSize (bs : List ℕ) : Type 0 where
  pub short : length bs ≤ largest_file
  pub whole : length bs % record_size ≡ 0

pub record Admitted (bs : List ℕ) (marks : ℕ) : Type 0 where
  pub fit : FitSize bs
  pub marked : records_in bs ≤ marks

abbrev pub InFile : List ℕ → List Line → Type 0
InFile bs ls = (i : ℕ) (l : Line) → At ls i l → decoded (part bs i) ≡ Ok l

pub record GoodRecords (bs : List ℕ) (n : ℕ) (ls : List Line) : Type 0 where
  pub count : length ls ≡ n
  pub read : InFile bs ls
  pub rules : LineRules ls

pub record IsHistory (bs : List ℕ) : Type 0 where
  pub lines : List Line
  pub count : length lines ≡ records_in bs
  pub read : InFile bs lines
  pub rules : FileRules lines

pub record CutAt (bs : List ℕ) (p : ℕ) : Type 0 where
  pub short : length bs ≤ largest_file
  pub cut : ¬ (length bs % record_size ≡ 0)
  pub last : p ≡ records_in bs

pub record BadFieldAt (bs : List ℕ) (p : ℕ) (f : RecordFault) : Type 0 where
  pub lines : List Line
  pub before : GoodRecords bs p lines
  pub there : p < records_in bs
  pub bad : BadField (part bs p) f

pub record OutOfPlaceAt (bs : List ℕ) (p : ℕ) : Type 0 where
  pub lines : List Line
  pub before : GoodRecords bs p lines
  pub line : Line
  pub there : p < records_in bs
  pub good : decoded (part bs p) ≡ Ok line
  pub misplaced : ¬ InPlace (lines ++ line ∷ []) p

pub record UnendedAt (bs : List ℕ) (p : ℕ) : Type 0 where
  pub lines : List Line
  pub all : GoodRecords bs (records_in bs) lines
  pub first : FirstUnended lines p

abbrev pub bad_record : RecordFault → ℕ → JudgeFault
bad_record f p = Record (record { fault = f; place = p })

pub record FileLaw (bs : List ℕ) (marks : ℕ) (o : Option JudgeFault) : Type 0 where
  pub granted : (o ≡ None) ↔ (Admitted bs marks × IsHistory bs)
  -- 20
  pub too_long : (o ≡ Some TooLong) ↔ (largest_file < length bs)
  -- 21
  pub cut : (p : ℕ) → (o ≡ Some (bad_record faults.Length p)) ↔ CutAt bs p
  -- 22, with the record's own fault
  pub bad_field : (p : ℕ) (f : RecordFault) → fault_number f ≡ 22
      → (o ≡ Some (bad_record f p)) ↔ (Admitted bs marks × BadFieldAt bs p f)
  -- 23
  pub out_of_place : (p : ℕ) → (o ≡ Some (OutOfPlace p)) ↔ (Admitted bs marks × OutOfPlaceAt bs p)
  -- 24
  pub no_end : (p : ℕ) → (o ≡ Some (NoEnd p)) ↔ (Admitted bs marks × UnendedAt bs p)
  -- 25
  pub few_marks : (o ≡ Some FewMarks) ↔ (FitSize bs × (marks < records_in bs))
