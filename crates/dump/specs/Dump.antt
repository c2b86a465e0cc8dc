-- What the program prints of a file: a line for each record and how many there were, or the first refusal. Assumes nothing.
--     total cs                    how many records were counted, of all kinds
--     counted_in cs k             the counts with one record of kind k more
--     counts_text cs              as 4 records: 1 READ, 1 WRIT, 1 DONE, 1 GONE
--     text_from bs i n cs         what is printed from record i on, with n records to come and the counts so far
--     dump_text bs                what is printed of a file
--     PrintsFrom known old new    of the bytes that are known to come the text was written: what the
--                                 writer held is old, and what it holds is new
use Rattle.std.specs.Prelude.{ℕ, zero, suc, ◌+◌, List, ◌++◌, Ok, Err, codes, decimal, IfSome, Option, Result}
use Rattle.std.specs.Io.KnownBytes.{Appends}
use Rattle.records.specs.declared.kind.Kind.{Kind}
use Rattle.records.specs.declared.kind.Kind.TheVariants.{Read, Writ, Done, Gone}
use Rattle.records.specs.declared.line.Line.{Line}
use Rattle.records.specs.declared.fault.PlacedFault.{PlacedFault}
use Rattle.records.specs.Format.{decoded, placed_at}
use Rattle.records.specs.Parts.{part}
use Rattle.records.specs.Words.{line_text}
use Rattle.rules.specs.declared.judge_fault.JudgeFault.{JudgeFault}
use Rattle.rules.specs.Rules.{counted, judged}
use Rattle.history.specs.Texts.{with_newline, refused_line}
use Rattle.dump.specs.declared.counts.Counts.{Counts}

abbrev pub none_counted : Counts
none_counted = record { reads = 0; writs = 0; dones = 0; gones = 0 }

abbrev pub total : Counts → ℕ
total cs = cs.reads + cs.writs + cs.dones + cs.gones

abbrev pub counted_in : Counts → Kind → Counts
counted_in cs Read = record { reads = cs.reads + 1; writs = cs.writs; dones = cs.dones; gones = cs.gones }
counted_in cs Writ = record { reads = cs.reads; writs = cs.writs + 1; dones = cs.dones; gones = cs.gones }
counted_in cs Done = record { reads = cs.reads; writs = cs.writs; dones = cs.dones + 1; gones = cs.gones }
counted_in cs Gone = record { reads = cs.reads; writs = cs.writs; dones = cs.dones; gones = cs.gones + 1 }

abbrev pub counts_text : Counts → List ℕ
counts_text cs =
    decimal (total cs) ++ (codes " records: " ++ (decimal cs.reads ++ (codes " READ, " ++ (decimal cs.writs ++ (codes " WRIT, "
    ++ (decimal cs.dones ++ (codes " DONE, " ++ (decimal cs.gones ++ codes " GONE"))))))))

abbrev pub text_by : Result Line PlacedFault → Counts → (Counts → List ℕ) → List ℕ
text_by (Ok l) cs more = with_newline (line_text l) ++ more (counted_in cs l.kind)
text_by (Err p) cs more = refused_line (judged p)

abbrev pub text_from : List ℕ → ℕ → ℕ → Counts → List ℕ
text_from bs i zero cs = with_newline (counts_text cs)
text_from bs i (suc n) cs = text_by (placed_at i (decoded (part bs i))) cs (text_from bs (suc i) n)

abbrev pub text_of_size : List ℕ → Result ℕ JudgeFault → List ℕ
text_of_size bs (Ok n) = text_from bs 0 n none_counted
text_of_size bs (Err f) = refused_line f

abbrev pub dump_text : List ℕ → List ℕ
dump_text bs = text_of_size bs (counted bs)

abbrev pub PrintsFrom : (known old new : Option (List ℕ)) → Type 0
PrintsFrom known old new = IfSome known (λ file. Appends old new (dump_text file))
