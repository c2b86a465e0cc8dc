-- The text of what is read of a file is the file's. Assumes nothing.
use Rattle.std.proofs.Common.{◌≡◌, ℕ, List, take, Some, None, Option, sym, ap, ◌∙◌, subst, inl, inr}
use Rattle.std.specs.Io.KnownBytes.{Appends}
use Rattle.reports.specs.Reading.{read_at_most, IsReadFrom}
use Rattle.reports.proofs.Enough.{read_enough}
use Rattle.dump.specs.Dump.{text_of_size, dump_text, PrintsFrom}

text_read : (bs : List ℕ) → dump_text (take read_at_most bs) ≡ dump_text bs
text_read bs = elim (read_enough bs) [
  | inl whole ↦ ap dump_text whole
  | inr (long, cut) ↦ ap (text_of_size (take read_at_most bs)) cut ∙ sym (ap (text_of_size bs) long)
]

pub written_read : (known old new : Option (List ℕ)) (read at written : List ℕ) → IsReadFrom known read → at ≡ read → written ≡ dump_text at
    → Appends old new written → PrintsFrom known old new
written_read None old new read at written e f is w = tt
written_read (Some bs) old new read at written e f is w = subst (Appends old new) (is ∙ ap dump_text (f ∙ e) ∙ text_read bs) w
