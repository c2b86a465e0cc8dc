use Rattle.std.proofs.Common.{◌≡◌, ℕ, ◌+◌, ◌<◌, false, not, ◌&&◌, Option, None, Some, is_some, List, length, get_or, set, sym, refl, ◌∙◌, subst, arith, length-set}
use Rattle.std.proofs.lemmas.Bool.Decides.{nat_tests}
use Rattle.digest.specs.Entries.{at, is_done}
use Rattle.answers.specs.Questions.{done_in}
use Rattle.answers.proofs.CommitLaws.{none_done, done_noted, done_kept}
use Rattle.answers.proofs.listed.Listed.dones.Goals as goal
use Rattle.answers.proofs.listed.Listed.dones.Goals.{then-is_done+then-is_none, else-is_done, else-is_done-via-then-is_done+else-is_none, else-is_done-via-else-is_done}

pub loop-place-init : goal.loop-place-init
loop-place-init g c = ((λ o lt. none_done c.args.self.now.entries.now o lt), refl)

pub loop-place-preserved : goal.loop-place-preserved
loop-place-preserved g c =
    let es = c.args.self.now.entries.now in
    let n = c.loop-place.place in
    let ds = c.loop-place.dones in
    let inv = c.loop-place.invariant in
    let low = c.args.self.now.sound.owner n c.loop-place-test.true in
    let kept : (xs : List (Option ℕ)) → c.if-is_done.dones ≡ xs → ((o : ℕ) → o < 2048 → get_or xs o None ≡ done_in es o (n + 1)) × (length xs ≡ 2048)
    → ((o : ℕ) → o < 2048 → get_or c.if-is_done.dones o None ≡ done_in es o (n + 1)) × (length c.if-is_done.dones ≡ 2048) =
    λ xs e h. subst (λ (xs : List (Option ℕ)). ((o : ℕ) → o < 2048 → get_or xs o None ≡ done_in es o (n + 1)) × (length xs ≡ 2048)) (sym e) h in
    elim c.if-is_done.branch [
      | then-is_done+then-is_none w ↦ kept (set ds (at es n).owner (Some n)) w.dones-is (
        (λ o lt. done_noted es ds n o (omega (arith, inv.1)) (inv.0 o lt) (sym c.is_done.ensures ∙ w.if-is_done.true) w.if-is_none.ensures),
        length-set ds (at es n).owner (Some n) ∙ inv.1,
      )
      | else-is_done w ↦
          let no-news : (is_done (at es n).kind && not (is_some (get_or ds (at es n).owner None))) ≡ false = elim w.else-is_done.branch [
            | else-is_done-via-then-is_done+else-is_none w' ↦ let there = w'.if-is_none.ensures in grind (arith, nat_tests)
            | else-is_done-via-else-is_done w' ↦ grind (arith, nat_tests)
          ] in
          kept ds w.dones-is ((λ o lt. done_kept es ds n o (inv.0 o lt) no-news), inv.1)
    ]
