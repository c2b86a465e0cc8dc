use Rattle.std.proofs.Common.{◌≡◌, ℕ, ◌+◌, ◌≤◌, cond, sym, ap, ◌∙◌, arith}
use Rattle.entries.specs.declared.entries.DraftEntry.{DraftEntry}
use Rattle.tables.specs.Tables.{seat}
use Rattle.committing.proofs.Certified.{outdated_more, outdated_end}
use Rattle.committing.proofs.certify.is_outdated.Goals as goal
use Rattle.committing.proofs.certify.is_outdated.Goals.{then-not-is_current, else-not-is_current}

abbrev none : DraftEntry
none = record { card = record { 0 = 0 }; value = record { first = 0; second = 0 } }

pub loop-draft-preserved : goal.loop-draft-preserved
loop-draft-preserved g c =
    let counted : c.if-not-is_current.stale ≡ c.loop-draft.stale + cond {A = ℕ} c.is_current.result 0 1 =
    elim c.if-not-is_current.branch [
      | then-not-is_current w ↦ w.stale-is ∙ ap (λ b. c.loop-draft.stale + cond {A = ℕ} b 0 1) (sym w.if-not-is_current.true)
      | else-not-is_current w ↦ w.stale-is ∙ omega (arith, ap (λ b. c.loop-draft.stale + cond {A = ℕ} b 0 1) (sym w.if-not-is_current.false))
    ] in
    let low : c.if-not-is_current.stale ≤ c.loop-draft.stale + 1 =
    elim c.if-not-is_current.branch [ then-not-is_current w ↦ omega (arith, w.stale-is) | else-not-is_current w ↦ omega (arith, w.stale-is) ] in (
      outdated_more (g.S.Shelf.meaning c.args.shelf.now) (seat c.args.here).reads c.drafts-draft-items.result.now
          c.loop-draft.draft-index none c.loop-draft.stale c.if-not-is_current.stale c.is_current.result c.loop-draft-test.true c.is_current.ensures counted
          c.loop-draft.invariant.0,
      omega (arith, low, c.loop-draft.invariant.1),
    )

pub returns : goal.returns
returns g c =
    outdated_end (g.S.Shelf.meaning c.args.shelf.now) (seat c.args.here).reads c.drafts-draft-items.result.now
    (seat c.args.here).drafts c.loop-draft.draft-index c.loop-draft.stale c.loop-draft-test.false
    c.drafts-draft-items.ensures c.loop-draft.invariant.0
