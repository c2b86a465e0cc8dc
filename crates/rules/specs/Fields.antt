-- The fields of a record, as statements. Assumes nothing.
--     GoodTransaction l           the transaction of a line is good
--     GoodCard k l                the card of a line of kind k is good
--     GoodWriter k l              the writer of a line of kind k is good
--     GoodWords k l               the words of a line of kind k are good
--     GoodFields l                no field of a line is bad
--     FirstBad f l                the first bad field of a line is that of the fault f
--     BadField bs f               the same of a record's bytes, where the kind comes first
use Rattle.std.specs.Prelude.{◌≡◌, ℕ, ◌≤◌, ◌⊎◌, List, Some, None}
use Rattle.records.specs.declared.kind.Kind.{Kind}
use Rattle.records.specs.declared.kind.Kind.TheVariants as kinds
use Rattle.records.specs.declared.line.Line.{Line}
use Rattle.records.specs.declared.fault.RecordFault.{RecordFault}
use Rattle.records.specs.declared.fault.RecordFault.TheVariants as faults
use Rattle.records.specs.Format.{kind_of, line_of}

-- a transaction's number is 1 to 1,000,000
abbrev pub GoodTransaction : Line → Type 0
GoodTransaction l = (1 ≤ l.transaction.0) × (l.transaction.0 ≤ 1000000)

-- a card's number is at most 255, and 0 at an end
abbrev pub GoodCard : Kind → Line → Type 0
GoodCard kinds.Read l = l.card.0 ≤ 255
GoodCard kinds.Writ l = l.card.0 ≤ 255
GoodCard kinds.Done l = l.card.0 ≡ 0
GoodCard kinds.Gone l = l.card.0 ≡ 0

-- a READ names a writer of at most 1,000,000, a WRIT its own transaction, an end nobody
abbrev pub GoodWriter : Kind → Line → Type 0
GoodWriter kinds.Read l = l.writer.0 ≤ 1000000
GoodWriter kinds.Writ l = l.writer.0 ≡ l.transaction.0
GoodWriter kinds.Done l = l.writer.0 ≡ 0
GoodWriter kinds.Gone l = l.writer.0 ≡ 0

-- only a WRIT has words
abbrev pub GoodWords : Kind → Line → Type 0
GoodWords kinds.Read l = (l.value.first ≡ 0) × (l.value.second ≡ 0)
GoodWords kinds.Writ l = Unit {0}
GoodWords kinds.Done l = (l.value.first ≡ 0) × (l.value.second ≡ 0)
GoodWords kinds.Gone l = (l.value.first ≡ 0) × (l.value.second ≡ 0)

pub record GoodFields (l : Line) : Type 0 where
  pub transaction : GoodTransaction l
  pub card : GoodCard l.kind l
  pub writer : GoodWriter l.kind l
  pub words : GoodWords l.kind l

-- the order is transaction, card, writer, words
abbrev pub FirstBad : RecordFault → Line → Type 0
FirstBad faults.Length l = ⊥
FirstBad faults.Kind l = ⊥
FirstBad faults.Transaction l = ¬ GoodTransaction l
FirstBad faults.Card l = GoodTransaction l × ¬ GoodCard l.kind l
FirstBad faults.Writer l = GoodTransaction l × GoodCard l.kind l × ¬ GoodWriter l.kind l
FirstBad faults.Words l =
    GoodTransaction l × GoodCard l.kind l × GoodWriter l.kind l × ¬ GoodWords l.kind l

abbrev pub BadField : List ℕ → RecordFault → Type 0
BadField bs f =
    ((kind_of bs ≡ None) × (f ≡ faults.Kind))
    ⊎ ((k : Kind) × (kind_of bs ≡ Some k) × FirstBad f (line_of k bs))
