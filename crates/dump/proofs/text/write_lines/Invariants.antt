use Rattle.std.proofs.Common.{◌≡◌, ◌-◌, ◌*◌, ◌≤◌, ◌++◌, length, string_bytes, string_len, string_capacity}
use Rattle.records.specs.Parts.{records_in}
use Rattle.dump.specs.declared.text.TheConstants.{MOST_PRINTED}
use Rattle.dump.specs.Dump.{total, text_from, dump_text}
use Rattle.dump.proofs.text.write_lines.Given as goal

-- the text so far, and what is still to come of the file, are the whole text; no line is longer than 80 bytes
abbrev pub invariant-loop-place : goal.invariant-loop-place
invariant-loop-place l =
    (goal.iterator-loop-place).can_next l.place-iterator × (goal.iterator-loop-place).is_finite l.place-iterator
    × (total l.counts ≡ length l.yielded) × (records_in l.file ≤ 2048)
    × (string_len l.text ≤ 80 * length l.yielded) × (MOST_PRINTED ≤ string_capacity l.text)
    × (string_bytes l.text ++ text_from l.file (length l.yielded) (records_in l.file - length l.yielded) l.counts ≡ string_bytes l.initial.text ++ dump_text l.file)
