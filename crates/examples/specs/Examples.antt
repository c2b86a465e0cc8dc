-- The worked examples: one list, and what it is for one of them to hold. Assumes nothing.
--     words a b                   two words
--     read, writ, done, gone      a line of a history file; a WRIT's words are 0
--     logged                      a WRIT as an editor's day leaves it
--     bytes ls                    the file of these lines
--     verdict a c w               what the judge says of committed reads, consistent snapshots and write conflicts
--     chain c w, two_writers end w        the files of the examples
--     editors, editors_journal    a day of seven editors, and the journal that it leaves
--     index                       a day in which the cards are read one by one while another editor moves two problems
--     Example                     a file's lines with the verdict or the fault expected and what is printed of them, or a day
--     Holds e                     the file is accepted, and each letter of the verdict is yes exactly where the property holds, or it is
--                                 refused for the fault; program judge prints this of it; the day goes as expected
--     examples                    all of them
use Rattle.std.specs.Prelude.{◌≡◌, ℕ, ◌≤◌, Bool, true, false, List, [], ◌∷◌, ◌++◌, length, Ok, Err, Result, codes}
use Rattle.stamps.specs.declared.value.Value.{Value}
use Rattle.stamps.specs.Blank.{blank}
use Rattle.records.specs.declared.kind.Kind.TheVariants.{Read, Writ, Done, Gone}
use Rattle.records.specs.declared.line.Line.{Line}
use Rattle.records.specs.Format.{encoded, no_words}
use Rattle.verdicts.specs.declared.verdict.Verdict.{Verdict}
use Rattle.rules.specs.declared.judge_fault.JudgeFault.{JudgeFault}
use Rattle.rules.specs.declared.judge_fault.JudgeFault.TheVariants.{OutOfPlace}
use Rattle.rules.specs.Rules.{accepted}
use Rattle.verdicts.specs.Verdicts.{Judged}
use Rattle.history.specs.Texts.{with_newline}
use Rattle.reports.specs.Printed.{IsPrinted}
use Rattle.transactions.specs.Committing.{line}
use Rattle.examples.specs.Days.{Step, ◌⟼◌, opens, reads, drafts, commits, stamp, journal, number, version, granted, refused, counts, lines, Day}

abbrev pub words : (first second : ℕ) → Value
words a b = record { first = a; second = b }

-- transaction t reads, of card x, the version that w wrote
abbrev pub read : (t x w : ℕ) → Line
read t x w = line Read t x w no_words

-- t writes card x
abbrev pub writ : (t x : ℕ) → Line
writ t x = line Writ t x t (words 0 0)

-- the same, with the words that the day's editors draft: the two numbers
abbrev pub logged : (t x : ℕ) → Line
logged t x = line Writ t x t (words t x)

-- t commits
abbrev pub done : ℕ → Line
done t = line Done t 0 0 no_words

-- t aborts
abbrev pub gone : ℕ → Line
gone t = line Gone t 0 0 no_words

abbrev pub bytes : List Line → List ℕ
bytes [] = []
bytes (l ∷ ls) = encoded l ++ bytes ls

abbrev pub verdict : (aca cons wcf : Bool) → Verdict
verdict a c w = record { aca = a; cons = c; wcf = w }

-- 2 reads what 1 wrote and writes card c, which is to be 9; 3 reads what 2 wrote, and 4 what 3 wrote and then card 4 as w wrote it
abbrev pub chain : (c w : ℕ) → List Line
chain c w =
    read 1 4 0 ∷ writ 1 4 ∷ done 1
    ∷ read 2 4 1 ∷ read 2 9 0 ∷ writ 2 c ∷ done 2
    ∷ read 3 9 2 ∷ read 3 11 0 ∷ writ 3 11 ∷ done 3
    ∷ read 4 11 3 ∷ read 4 4 w ∷ done 4 ∷ []

-- 1 writes card 4 and ends with this line; 2 reads the card as w wrote it, writes it and commits
abbrev pub two_writers : Line → ℕ → List Line
two_writers end w = read 1 4 0 ∷ writ 1 4 ∷ end ∷ read 2 4 w ∷ writ 2 4 ∷ done 2 ∷ []

-- the editors A to G are the transactions 1 to 7, all open from the start; t's words for card x are the two numbers
abbrev pub editors : List Step
editors =
    opens ⟼ number 1 ∷ opens ⟼ number 2 ∷ opens ⟼ number 3 ∷ opens ⟼ number 4
    ∷ opens ⟼ number 5 ∷ opens ⟼ number 6 ∷ opens ⟼ number 7
    -- C reads before A commits
    ∷ reads 3 0 ⟼ version 0 blank
    ∷ reads 1 0 ⟼ version 0 blank ∷ drafts 1 0 (words 1 0) ⟼ granted ∷ commits 1 ⟼ granted
    ∷ stamp 0 1 ⟼ counts (1 ∷ 0 ∷ 0 ∷ [])
    ∷ reads 2 0 ⟼ version 1 (words 1 0) ∷ reads 2 1 ⟼ version 0 blank ∷ drafts 2 1 (words 2 1) ⟼ granted ∷ commits 2 ⟼ granted
    ∷ stamp 1 1 ⟼ counts (1 ∷ 1 ∷ 0 ∷ [])
    -- C's snapshot is older than B's commit, and D's is not
    ∷ reads 3 1 ⟼ version 0 blank
    ∷ reads 4 1 ⟼ version 1 (words 2 1) ∷ reads 4 0 ⟼ version 1 (words 1 0)
    ∷ drafts 3 0 (words 3 0) ⟼ granted ∷ commits 3 ⟼ refused 12
    ∷ reads 5 0 ⟼ version 1 (words 1 0) ∷ reads 5 1 ⟼ version 1 (words 2 1)
    ∷ drafts 5 0 (words 5 0) ⟼ granted ∷ drafts 5 1 (words 5 1) ⟼ granted ∷ commits 5 ⟼ granted
    ∷ stamp 0 2 ⟼ counts (2 ∷ 2 ∷ 0 ∷ []) ∷ stamp 1 2 ⟼ counts (2 ∷ 2 ∷ 0 ∷ [])
    -- F and G read the same versions and write different cards
    ∷ reads 6 0 ⟼ version 2 (words 5 0) ∷ reads 6 1 ⟼ version 2 (words 5 1)
    ∷ reads 7 0 ⟼ version 2 (words 5 0) ∷ reads 7 1 ⟼ version 2 (words 5 1)
    ∷ drafts 6 0 (words 6 0) ⟼ granted ∷ drafts 7 1 (words 7 1) ⟼ granted
    ∷ commits 6 ⟼ granted ∷ stamp 0 3 ⟼ counts (3 ∷ 2 ∷ 0 ∷ [])
    ∷ commits 7 ⟼ granted ∷ stamp 1 3 ⟼ counts (2 ∷ 3 ∷ 0 ∷ []) ∷ []

-- the lines of A, B, E, F and G
abbrev pub editors_journal : List Line
editors_journal =
    read 1 0 0 ∷ logged 1 0 ∷ done 1
    ∷ read 2 0 1 ∷ read 2 1 0 ∷ logged 2 1 ∷ done 2
    ∷ read 5 0 1 ∷ read 5 1 2 ∷ logged 5 0 ∷ logged 5 1 ∷ done 5
    ∷ read 6 0 5 ∷ read 6 1 5 ∷ logged 6 0 ∷ done 6
    ∷ read 7 0 5 ∷ read 7 1 5 ∷ logged 7 1 ∷ done 7 ∷ []

-- 1 enters two problems. 2 reads the cards one by one, while 3 moves each problem to the other's card: 2 finds each of them once,
-- where they were, and 4, which comes later, finds each once, where they are
abbrev pub index : List Step
index =
    opens ⟼ number 1 ∷ reads 1 0 ⟼ version 0 blank ∷ reads 1 1 ⟼ version 0 blank
    ∷ drafts 1 0 (words 30 1) ⟼ granted ∷ drafts 1 1 (words 40 1) ⟼ granted ∷ commits 1 ⟼ granted
    ∷ opens ⟼ number 2 ∷ reads 2 0 ⟼ version 1 (words 30 1)
    ∷ opens ⟼ number 3 ∷ reads 3 0 ⟼ version 1 (words 30 1) ∷ reads 3 1 ⟼ version 1 (words 40 1)
    ∷ drafts 3 0 (words 40 1) ⟼ granted ∷ drafts 3 1 (words 30 1) ⟼ granted ∷ commits 3 ⟼ granted
    ∷ reads 2 1 ⟼ version 1 (words 40 1) ∷ reads 2 2 ⟼ version 0 blank ∷ commits 2 ⟼ granted
    ∷ opens ⟼ number 4 ∷ reads 4 0 ⟼ version 2 (words 40 1) ∷ reads 4 1 ⟼ version 2 (words 30 1) ∷ commits 4 ⟼ granted ∷ []

pub data Example : Type 0 where
  file : List Line → Verdict → (printed : List ℕ) → Example
  bad_file : List Line → JudgeFault → (printed : List ℕ) → Example
  day : List Step → Example

-- with one mark for each line, or more
abbrev pub Accepts : List Line → Result (List Line) JudgeFault → Type 0
Accepts ls r = (marks : ℕ) → length ls ≤ marks → accepted (bytes ls) marks ≡ r

abbrev pub Holds : Example → Type 0
Holds (file ls v text) = Accepts ls (Ok ls) × Judged ls v × IsPrinted (bytes ls) (with_newline text)
Holds (bad_file ls f text) = Accepts ls (Err f) × IsPrinted (bytes ls) (with_newline text)
Holds (day ss) = Day ss

abbrev pub examples : List Example
examples =
    -- an empty file
    file [] (verdict true true true) (codes "ACA=Y CONS=Y WCF=Y")
    -- 4 depends on 1, which wrote a newer version of card 4 than 4 read
    ∷ file (chain 9 0) (verdict true false true) (codes "ACA=Y CONS=N WCF=Y")
    -- 4 read that version
    ∷ file (chain 9 1) (verdict true true true) (codes "ACA=Y CONS=Y WCF=Y")
    -- 2 writes a card that it has not read
    ∷ bad_file (chain 11 0) (OutOfPlace 5) (codes "REFUSED 23 AT 5")
    -- two writers of card 4 that do not depend on one another
    ∷ file (two_writers (done 1) 0) (verdict true true false) (codes "ACA=Y CONS=Y WCF=N")
    -- a version is read whose writer never commits
    ∷ file (two_writers (gone 1) 1) (verdict false true true) (codes "ACA=N CONS=Y WCF=Y")
    ∷ day (editors ++ journal ⟼ lines editors_journal ∷ [])
    -- the journal of a day is a history that obeys the rules
    ∷ file editors_journal (verdict true true true) (codes "ACA=Y CONS=Y WCF=Y")
    ∷ day index
    ∷ []
