use Rattle.std.proofs.Common.{List, [], ◌∷◌, ◌++◌, map, sym, ap, ◌∙◌, arith}
use Rattle.std.proofs.lemmas.List.{append_assoc}
use Rattle.stamps.specs.Counts.{room}
use Rattle.records.specs.declared.kind.Kind.TheVariants as kinds
use Rattle.records.specs.declared.line.Line.{Line}
use Rattle.records.specs.Format.{no_words}
use Rattle.transactions.specs.Committing.{line, read_lines, writ_lines}
use Rattle.entries.specs.Contents.{reading, drafting, opening}
use Rattle.entries.specs.Numbers.{apart}
use Rattle.entries.proofs.Drafts.{reading_cards, drafting_cards}
use Rattle.journals.specs.Journals.{Log, log_of, with_line, with_lines}
use Rattle.journals.proofs.BlockLines.{reads_are, writs_are}
use Rattle.journals.proofs.blocks.log_block.Goals as goal

pub log_each-requires : goal.log_each-requires
log_each-requires g c =
    record { listed = ap (apart room) (sym (reading_cards c.args.reads.now)) ∙ c.requires.read; space = omega (arith, c.requires.space) }

pub log_each-requires-2 : goal.log_each-requires-2
log_each-requires-2 g c =
    let read = ap (apart room) (sym (reading_cards c.args.reads.now)) ∙ c.requires.read in
    let drafted = ap (apart room) (sym (drafting_cards c.args.drafts.now)) ∙ c.requires.drafted in
    record {
      listed = search (read, drafted);
      space = omega (arith, c.log_each.ensures.many, c.log_each.ensures.size, c.requires.space);
    }

pub add-requires : goal.add-requires
add-requires g c =
    omega (arith, c.log_each.ensures.many, c.log_each.ensures.size, c.log_each-2.ensures.many, c.log_each-2.ensures.size, c.requires.space)

pub returns : goal.returns
returns g c = λ n read drafted.
    let m = g.S.Shelf.meaning c.args.shelf.now in
    let rs = c.args.reads.now in
    let ds = c.args.drafts.now in
    let o = opening c.args.number.0 (map reading rs) (map drafting ds) in
    let old = log_of c.args.journal.now in
    let r = read_lines m o n in
    let w = writ_lines o n in
    let end : Line = line kinds.Done c.args.number.0 0 0 no_words in
    let made : List Line → Log = λ ls. record { size = old.size; lines = ls } in
    let first = c.log_each.ensures.lines n (ap (apart n) (sym (reading_cards rs)) ∙ read) ∙ ap (with_lines old) (reads_are m c.args.number.0 rs (map drafting ds) n) in
    let second =
    c.log_each-2.ensures.lines n (ap (apart n) (sym (drafting_cards ds)) ∙ drafted)
    ∙ ap (with_lines (log_of c.log_each.new.journal)) (writs_are m c.args.number.0 (map reading rs) ds n) in
    c.add.ensures ∙ ap (with_line (log_of c.log_each-2.new.journal)) c.done.ensures ∙ ap (λ l. with_line l end) (second ∙ ap (λ l. with_lines l w) first)
    ∙ ap made (append_assoc (old.lines ++ r) w (end ∷ []) ∙ append_assoc old.lines r (w ++ (end ∷ [])))
