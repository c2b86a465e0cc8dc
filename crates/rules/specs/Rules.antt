-- The rules of a history file: which file is judged, and what is wrong first with any other. Assumes nothing.
--     largest_file                how many bytes a file has at most
--     counted bs                  how many records a file of a fit size has, or what is wrong with its size
--     some p ls                   some line passes the test p
--     told k t x l                l is of kind k, by transaction t, on card x
--     ends t l                    l is the end of transaction t
--     in_place earlier l          l may stand behind the lines `earlier`
--     after_record .. , scanned   the lines of the first records, or the first fault among them
--     unended ls all i            the place, counted from i, of the first of ls whose transaction has no end in `all`
--     accepted bs marks           the lines of a file that is judged, or why it is not, given how many marks were lent
--     judge_number f, judge_place f       a fault's number and record place
--     judged p                    the judge's fault for a record's fault
use Rattle.std.specs.Prelude.{ℕ, zero, suc, ◌/◌, ◌%◌, Bool, true, false, cond, not, ◌&&◌, ◌||◌, List, [], ◌∷◌, ◌++◌, length, Some, None, Ok, Err, Option, Result, ◌==◌, nat_lt}
use Rattle.records.specs.declared.kind.Kind.{Kind}
use Rattle.records.specs.declared.kind.Kind.TheVariants.{Read, Writ, Done, Gone}
use Rattle.records.specs.declared.line.Line.{Line}
use Rattle.records.specs.declared.fault.RecordFault.{RecordFault}
use Rattle.records.specs.declared.fault.RecordFault.TheVariants as faults
use Rattle.records.specs.declared.fault.PlacedFault.{PlacedFault}
use Rattle.rules.specs.declared.judge_fault.JudgeFault.{JudgeFault}
use Rattle.rules.specs.declared.judge_fault.JudgeFault.TheVariants.{TooLong, Record, FewMarks, OutOfPlace, NoEnd}
use Rattle.records.specs.Format.{record_size, decoded, fault_number}
use Rattle.records.specs.Parts.{records_in, part}

abbrev pub largest_file : ℕ
largest_file = 65536

-- 20 too long, 21 a cut record, 22 a bad field, 23 out of place, 24 a transaction without end, 25 too few marks
abbrev pub judge_number : JudgeFault → ℕ
judge_number TooLong = 20
judge_number (Record p) = fault_number p.fault
judge_number FewMarks = 25
judge_number (OutOfPlace i) = 23
judge_number (NoEnd i) = 24

-- a file that is too long is faulty where its records would end at the most
abbrev pub judge_place : JudgeFault → ℕ
judge_place TooLong = largest_file / record_size
judge_place (Record p) = p.place
judge_place FewMarks = 0
judge_place (OutOfPlace i) = i
judge_place (NoEnd i) = i

abbrev pub judged : PlacedFault → JudgeFault
judged p = Record p

-- a file has at most its size, then whole records
abbrev pub counted : List ℕ → Result ℕ JudgeFault
counted bs =
    cond (nat_lt largest_file (length bs)) (Err TooLong)
    (cond (length bs % record_size == 0) (Ok (records_in bs))
    (Err (Record (record { fault = faults.Length; place = records_in bs }))))

abbrev pub some : (Line → Bool) → List Line → Bool
some p [] = false
some p (l ∷ ls) = p l || some p ls

abbrev pub is_read : Kind → Bool
is_read Read = true
is_read Writ = false
is_read Done = false
is_read Gone = false

abbrev pub is_writ : Kind → Bool
is_writ Read = false
is_writ Writ = true
is_writ Done = false
is_writ Gone = false

abbrev pub is_end : Kind → Bool
is_end Read = false
is_end Writ = false
is_end Done = true
is_end Gone = true

-- l is by transaction t on card x, and its kind passes the test
abbrev pub told : (Kind → Bool) → ℕ → ℕ → Line → Bool
told k t x l = k l.kind && l.transaction.0 == t && l.card.0 == x

abbrev pub ends : ℕ → Line → Bool
ends t l = is_end l.kind && l.transaction.0 == t

-- a READ comes once a card, names another transaction, and one that wrote the card before (or nobody, for version 0);
-- a WRIT comes once a card, after the transaction's own READ of it
abbrev pub kind_in_place : Kind → List Line → Line → Bool
kind_in_place Read earlier l =
    not (some (told is_read l.transaction.0 l.card.0) earlier) && not (l.writer.0 == l.transaction.0)
    && (l.writer.0 == 0 || some (told is_writ l.writer.0 l.card.0) earlier)
kind_in_place Writ earlier l =
    some (told is_read l.transaction.0 l.card.0) earlier && not (some (told is_writ l.transaction.0 l.card.0) earlier)
kind_in_place Done earlier l = true
kind_in_place Gone earlier l = true

-- nothing comes after a transaction's end
abbrev pub in_place : List Line → Line → Bool
in_place earlier l = not (some (ends l.transaction.0) earlier) && kind_in_place l.kind earlier l

-- one record more, behind i good ones: a bad field comes before a bad place
abbrev pub placed : ℕ → List Line → Line → Result (List Line) JudgeFault
placed i earlier l = cond (in_place earlier l) (Ok (earlier ++ l ∷ [])) (Err (OutOfPlace i))

abbrev pub after_record : ℕ → List Line → Result Line RecordFault → Result (List Line) JudgeFault
after_record i earlier (Ok l) = placed i earlier l
after_record i earlier (Err f) = Err (Record (record { fault = f; place = i }))

abbrev pub next_record : List ℕ → ℕ → Result (List Line) JudgeFault → Result (List Line) JudgeFault
next_record bs i (Ok earlier) = after_record i earlier (decoded (part bs i))
next_record bs i (Err f) = Err f

-- the lines of the first n records, or the first fault among them
abbrev pub scanned : List ℕ → ℕ → Result (List Line) JudgeFault
scanned bs zero = Ok []
scanned bs (suc n) = next_record bs n (scanned bs n)

abbrev pub unended : List Line → List Line → ℕ → Option ℕ
unended [] all i = None
unended (l ∷ ls) all i = cond (some (ends l.transaction.0) all) (unended ls all (suc i)) (Some i)

abbrev pub if_ended : List Line → Option ℕ → Result (List Line) JudgeFault
if_ended ls None = Ok ls
if_ended ls (Some i) = Err (NoEnd i)

-- every transaction has an end
abbrev pub all_ended : Result (List Line) JudgeFault → Result (List Line) JudgeFault
all_ended (Ok ls) = if_ended ls (unended ls ls 0)
all_ended (Err f) = Err f

-- the marks before the records, then the records one by one, and last the ends
abbrev pub marked : List ℕ → ℕ → Result ℕ JudgeFault → Result (List Line) JudgeFault
marked bs marks (Ok n) = cond (nat_lt marks n) (Err FewMarks) (all_ended (scanned bs n))
marked bs marks (Err f) = Err f

-- the size before all else
abbrev pub accepted : List ℕ → ℕ → Result (List Line) JudgeFault
accepted bs marks = marked bs marks (counted bs)
