use Rattle.std.proofs.Common.{eqb, sym, ap, ◌∙◌}
use Rattle.stamps.specs.declared.numbers.CardNo.{CardNo}
use Rattle.stamps.specs.declared.numbers.TxNo.{TxNo}
use Rattle.scan.proofs.Scans.{off_card, untold, apart_from}
use Rattle.scan.proofs.told.record.GoodRecord.shows.Goals as goal
use Rattle.scan.proofs.told.record.GoodRecord.shows.Goals.{then-eq, else-eq}

pub returns-else-eq-2 : goal.returns-else-eq-2
returns-else-eq-2 c = λ l e.
    elim c.if-eq.branch [
      | then-eq w ↦
          c.if-eq-2.false
          ∙ sym (off_card c.args.deed c.args.by.0 l (w.card.ensures.fit l e)
          (λ same. apart_from _ _ (sym w.eq-then-eq.ensures ∙ sym w.value-is ∙ c.if-eq-2.false) (sym (ap (λ (x : CardNo). x.0) (w.card.ensures.same l e)) ∙ same ∙ sym w.card-then-eq.ensures)))
      | else-eq w ↦
          c.if-eq-2.false
          ∙ sym (untold c.args.deed c.args.by.0 l (ap (λ (t : TxNo). eqb t.0 c.args.by.0) (c.transaction.ensures l e) ∙ sym c.eq.ensures ∙ w.if-eq.false))
    ]
