-- How a line is shown: the words and the numbers of its record, in decimal. Assumes nothing.
--     line_text l                 the text of a line, as READ 1 card 4 writer 0
use Rattle.std.specs.Prelude.{ℕ, List, ◌++◌, codes, decimal}
use Rattle.records.specs.declared.kind.Kind.{Kind}
use Rattle.records.specs.declared.kind.Kind.TheVariants.{Read, Writ, Done, Gone}
use Rattle.records.specs.declared.line.Line.{Line}

abbrev pub text_by : Kind → Line → List ℕ
text_by Read l = codes "READ " ++ (decimal l.transaction.0 ++ (codes " card " ++ (decimal l.card.0 ++ (codes " writer " ++ decimal l.writer.0))))
text_by Writ l = codes "WRIT " ++ (decimal l.transaction.0 ++ (codes " card " ++ (decimal l.card.0 ++ (codes " words " ++ (decimal l.value.first ++ (codes " " ++ decimal l.value.second))))))
text_by Done l = codes "DONE " ++ decimal l.transaction.0
text_by Gone l = codes "GONE " ++ decimal l.transaction.0

abbrev pub line_text : Line → List ℕ
line_text l = text_by l.kind l
