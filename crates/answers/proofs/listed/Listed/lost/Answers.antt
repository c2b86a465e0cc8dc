use Rattle.std.proofs.Common.{◌&&◌, eqb, length, sym, ap, ◌∙◌, arith}
use Rattle.std.proofs.lemmas.Bool.Decides.{nat_tests}
use Rattle.reach.specs.Links.{picks}
use Rattle.rules.specs.Rules.{is_writ}
use Rattle.digest.specs.Entries.{at}
use Rattle.digest.proofs.LinkLaws.{ahead_all, ahead_here, ahead_more, ahead_none}
use Rattle.answers.specs.Questions.{clashes, own_node}
use Rattle.answers.proofs.TestLaws.{some_hit}
use Rattle.answers.proofs.WalkLaws.{none_at_all, only_own_writs}
use Rattle.answers.proofs.listed.Listed.lost.Goals as goal

pub loop-place-init : goal.loop-place-init
loop-place-init g c =
    let r = c.args.self.now in
    let es = r.entries.now in
    let ds = c.args.known.now.dones.now in
    let fs = c.args.known.now.forward.now in
    let bs = c.args.known.now.backward.now in
    let o = c.args.owner in
    (tt, tt, ahead_all (g.W.Walk.count r.own.now) (g.W.Walk.comes r.own.now) own_node es r.owners (λ j. is_writ (at es j).kind && eqb (at es j).owner o && clashes es ds fs bs j) o (length es) (omega (arith)) (only_own_writs es ds fs bs o) _ (rw c.into_iter-place-iterator.ensures.into_iter_gives (c.from_node-place-items.ensures ∙ ap (picks (g.W.Walk.comes r.own.now o)) r.owners.each)))

pub bounds-self-place : goal.bounds-self-place
bounds-self-place g c =
    let r = c.args.self.now in
    let es = r.entries.now in
    let ds = c.args.known.now.dones.now in
    let fs = c.args.known.now.forward.now in
    let bs = c.args.known.now.backward.now in
    let o = c.args.owner in
    let here = ahead_here (g.W.Walk.count r.own.now) (g.W.Walk.comes r.own.now) own_node es r.owners (λ j. is_writ (at es j).kind && eqb (at es j).owner o && clashes es ds fs bs j) o (length es) (omega (arith)) (only_own_writs es ds fs bs o) c.in-Some.place _ _ c.in-Some.ensures.steps c.loop-place.invariant.2 in
    omega (arith, here)

pub offset_bounds-self-place : goal.offset_bounds-self-place
offset_bounds-self-place g c =
    let r = c.args.self.now in
    let es = r.entries.now in
    let ds = c.args.known.now.dones.now in
    let fs = c.args.known.now.forward.now in
    let bs = c.args.known.now.backward.now in
    let o = c.args.owner in
    let here = ahead_here (g.W.Walk.count r.own.now) (g.W.Walk.comes r.own.now) own_node es r.owners (λ j. is_writ (at es j).kind && eqb (at es j).owner o && clashes es ds fs bs j) o (length es) (omega (arith)) (only_own_writs es ds fs bs o) c.in-Some.place _ _ c.in-Some.ensures.steps c.loop-place.invariant.2 in
    omega (arith, here, r.few)

pub loop-place-preserved : goal.loop-place-preserved
loop-place-preserved g c =
    let r = c.args.self.now in
    let es = r.entries.now in
    let ds = c.args.known.now.dones.now in
    let fs = c.args.known.now.forward.now in
    let bs = c.args.known.now.backward.now in
    let o = c.args.owner in
    (tt, tt, ahead_more (g.W.Walk.count r.own.now) (g.W.Walk.comes r.own.now) own_node es r.owners (λ j. is_writ (at es j).kind && eqb (at es j).owner o && clashes es ds fs bs j) o (length es) (omega (arith)) (only_own_writs es ds fs bs o) c.in-Some.place _ _ c.in-Some.ensures.steps c.loop-place.invariant.2 (grind (arith, nat_tests)))

pub returns-then-clashes : goal.returns-then-clashes
returns-then-clashes g c =
    let r = c.args.self.now in
    let es = r.entries.now in
    let ds = c.args.known.now.dones.now in
    let fs = c.args.known.now.forward.now in
    let bs = c.args.known.now.backward.now in
    let o = c.args.owner in
    let here = ahead_here (g.W.Walk.count r.own.now) (g.W.Walk.comes r.own.now) own_node es r.owners (λ j. is_writ (at es j).kind && eqb (at es j).owner o && clashes es ds fs bs j) o (length es) (omega (arith)) (only_own_writs es ds fs bs o) c.in-Some.place _ _ c.in-Some.ensures.steps c.loop-place.invariant.2 in
    sym (some_hit (λ j. is_writ (at es j).kind && eqb (at es j).owner o && clashes es ds fs bs j) (length es) c.in-Some.place here (grind (arith, nat_tests)))

pub returns : goal.returns
returns g c =
    let r = c.args.self.now in
    let es = r.entries.now in
    let ds = c.args.known.now.dones.now in
    let fs = c.args.known.now.forward.now in
    let bs = c.args.known.now.backward.now in
    let o = c.args.owner in
    sym (none_at_all (λ j. is_writ (at es j).kind && eqb (at es j).owner o && clashes es ds fs bs j) (length es) (ahead_none (g.W.Walk.count r.own.now) (g.W.Walk.comes r.own.now) own_node es r.owners (λ j. is_writ (at es j).kind && eqb (at es j).owner o && clashes es ds fs bs j) o (length es) (omega (arith)) (only_own_writs es ds fs bs o) _ c.in-None.ensures.steps.0 c.loop-place.invariant.2))
