-- The tests of a record's fields, against what the fields have to be. Assumes nothing.
use Rattle.std.proofs.Common.{◌≡◌, ℕ, ◌+◌, ◌*◌, ◌<◌, ◌≤◌, Bool, true, false, cond, eqb, leb, List, length, Some, None, Err, Option, refl, sym, ap, ◌∙◌, inl, inr, arith}
use Rattle.std.specs.Prelude.{Decides, MatchOption}
use Rattle.std.proofs.lemmas.Bool.{cond-true, cond-false, leb-true, le-leb, eq-eqb, false_from_ne_true}
use Rattle.std.proofs.lemmas.Bool.Decides.{Decides-eqb, Decides-and, not_from_Decides}
use Rattle.std.proofs.lemmas.Option.{MatchOption-at_none, MatchOption-at_some}
use Rattle.std.proofs.lemmas.List.Edits.{length-between}
use Rattle.records.specs.declared.kind.Kind.{Kind}
use Rattle.records.specs.declared.kind.Kind.TheVariants as kinds
use Rattle.records.specs.declared.line.Line.{Line}
use Rattle.records.specs.declared.fault.RecordFault.{RecordFault}
use Rattle.records.specs.declared.fault.RecordFault.TheVariants as faults
use Rattle.records.specs.Format.{record_size, good_transaction, good_card, good_writer, good_words, fault_of, kind_of, line_of, tested, read_as, decoded}
use Rattle.records.specs.Parts.{records_in, part}
use Rattle.rules.specs.Fields.{GoodTransaction, GoodCard, GoodWriter, GoodWords, GoodFields, FirstBad, BadField}

at_most : (a b : ℕ) → Decides (leb a b) (a ≤ b)
at_most a b = (leb-true a b, le-leb a b)

transaction_decides : (l : Line) → Decides (good_transaction l.transaction.0) (GoodTransaction l)
transaction_decides l =
    Decides-and (leb 1 l.transaction.0) (leb l.transaction.0 1000000) (at_most 1 l.transaction.0) (at_most l.transaction.0 1000000)

card_decides : (k : Kind) (l : Line) → Decides (good_card k l.card.0) (GoodCard k l)
card_decides kinds.Read l = at_most l.card.0 255
card_decides kinds.Writ l = at_most l.card.0 255
card_decides kinds.Done l = Decides-eqb l.card.0 0
card_decides kinds.Gone l = Decides-eqb l.card.0 0

writer_decides : (k : Kind) (l : Line) → Decides (good_writer k l.transaction.0 l.writer.0) (GoodWriter k l)
writer_decides kinds.Read l = at_most l.writer.0 1000000
writer_decides kinds.Writ l = Decides-eqb l.writer.0 l.transaction.0
writer_decides kinds.Done l = Decides-eqb l.writer.0 0
writer_decides kinds.Gone l = Decides-eqb l.writer.0 0

no_words : (l : Line) → Decides (good_words kinds.Read l.value) ((l.value.first ≡ 0) × (l.value.second ≡ 0))
no_words l =
    Decides-and (eqb l.value.first 0) (eqb l.value.second 0) (Decides-eqb l.value.first 0) (Decides-eqb l.value.second 0)

words_decides : (k : Kind) (l : Line) → Decides (good_words k l.value) (GoodWords k l)
words_decides kinds.Read l = no_words l
words_decides kinds.Writ l = (λ e. tt, λ u. refl)
words_decides kinds.Done l = no_words l
words_decides kinds.Gone l = no_words l

module _ (l : Line) where
  found : (t c w v : Bool) → Decides t (GoodTransaction l) → Decides c (GoodCard l.kind l) → Decides w (GoodWriter l.kind l) → Decides v (GoodWords l.kind l)
      → MatchOption (cond t (cond c (cond w (cond v None (Some faults.Words)) (Some faults.Writer)) (Some faults.Card)) (Some faults.Transaction))
      (GoodFields l) (λ f. FirstBad f l)
  found true true true true p q r s = record { transaction = p.0 refl; card = q.0 refl; writer = r.0 refl; words = s.0 refl }
  found true true true false p q r s = (p.0 refl, q.0 refl, r.0 refl, not_from_Decides false s refl)
  found true true false v p q r s = (p.0 refl, q.0 refl, not_from_Decides false r refl)
  found true false w v p q r s = (p.0 refl, not_from_Decides false q refl)
  found false c w v p q r s = not_from_Decides false p refl

  fault_says : MatchOption (fault_of l) (GoodFields l) (λ f. FirstBad f l)
  fault_says =
      found (good_transaction l.transaction.0) (good_card l.kind l.card.0) (good_writer l.kind l.transaction.0 l.writer.0) (good_words l.kind l.value)
      (transaction_decides l) (card_decides l.kind l) (writer_decides l.kind l) (words_decides l.kind l)

  -- a line without a fault has good fields, and the other way round
  pub good_from_none : fault_of l ≡ None → GoodFields l
  good_from_none e = MatchOption-at_none (GoodFields l) (λ f. FirstBad f l) e fault_says

  bad_from_some : (f : RecordFault) → fault_of l ≡ Some f → FirstBad f l
  bad_from_some f e = MatchOption-at_some (GoodFields l) (λ f. FirstBad f l) f e fault_says

  test_fails : {P : Type 0} (b : Bool) → Decides b P → ¬ P → b ≡ false
  test_fails b d fails = false_from_ne_true b (λ e. fails (d.0 e))

  some_from_bad : (f : RecordFault) → FirstBad f l → fault_of l ≡ Some f
  some_from_bad faults.Length b = absurd b
  some_from_bad faults.Kind b = absurd b
  some_from_bad faults.Transaction b = cond-false _ _ _ (test_fails _ (transaction_decides l) b)
  some_from_bad faults.Card (t, b) = cond-true _ _ _ ((transaction_decides l).1 t) ∙ cond-false _ _ _ (test_fails _ (card_decides l.kind l) b)
  some_from_bad faults.Writer (t, c, b) =
      cond-true _ _ _ ((transaction_decides l).1 t) ∙ cond-true _ _ _ ((card_decides l.kind l).1 c) ∙ cond-false _ _ _ (test_fails _ (writer_decides l.kind l) b)
  some_from_bad faults.Words (t, c, w, b) =
      cond-true _ _ _ ((transaction_decides l).1 t) ∙ cond-true _ _ _ ((card_decides l.kind l).1 c)
      ∙ cond-true _ _ _ ((writer_decides l.kind l).1 w) ∙ cond-false _ _ _ (test_fails _ (words_decides l.kind l) b)

  pub none_from_good : GoodFields l → fault_of l ≡ None
  none_from_good g =
      cond-true _ _ _ ((transaction_decides l).1 g.transaction) ∙ cond-true _ _ _ ((card_decides l.kind l).1 g.card)
      ∙ cond-true _ _ _ ((writer_decides l.kind l).1 g.writer) ∙ cond-true _ _ _ ((words_decides l.kind l).1 g.words)

-- what the bytes of a whole record read as
module _ (bs : List ℕ) (whole : length bs ≡ record_size) where
  reads : decoded bs ≡ read_as bs (kind_of bs)
  reads = cond-true _ _ _ (eq-eqb (length bs) record_size whole)

  bad_of : (o : Option Kind) (f : RecordFault) → kind_of bs ≡ o → read_as bs o ≡ Err f → BadField bs f
  bad_of None f e h = inl (e, cc)
  bad_of (Some k) f e h = inr (k, e, bad_from_some (line_of k bs) f (tested_bad (fault_of (line_of k bs)) h))
    where
      tested_bad : (o : Option RecordFault) → tested (line_of k bs) o ≡ Err f → o ≡ Some f
      tested_bad None h = let z : ◌≡◌ {A = ℕ} 0 1 = cc in absurd (omega arith)
      tested_bad (Some g) h = cc

  -- its fault is its first bad field
  pub bad_field : (f : RecordFault) → decoded bs ≡ Err f → BadField bs f
  bad_field f h = bad_of (kind_of bs) f refl (sym reads ∙ h)

  pub field_refused : (f : RecordFault) → BadField bs f → decoded bs ≡ Err f
  field_refused f (inl (e, is)) = reads ∙ ap (read_as bs) e ∙ ap Err (sym is)
  field_refused f (inr (k, e, bad)) = reads ∙ ap (read_as bs) e ∙ ap (tested (line_of k bs)) (some_from_bad (line_of k bs) f bad)

-- a record of a file is whole
pub long_part : (bs : List ℕ) (i : ℕ) → i < records_in bs → length (part bs i) ≡ record_size
long_part bs i lt = length-between bs (i * 32) (i * 32 + 32) (omega arith) ∙ omega arith
