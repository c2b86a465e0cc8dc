use Rattle.std.proofs.Common.{◌&&◌, sym, ap, ◌∙◌, arith}
use Rattle.std.proofs.lemmas.Bool.Decides.{nat_tests}
use Rattle.reach.specs.Links.{picks}
use Rattle.digest.specs.Entries.{at, rivals}
use Rattle.digest.proofs.LinkLaws.{ahead_all, ahead_here, ahead_more, ahead_none}
use Rattle.answers.specs.Questions.{apart, writ_node}
use Rattle.answers.proofs.TestLaws.{some_hit}
use Rattle.answers.proofs.WalkLaws.{none_at_all, only_rivals}
use Rattle.answers.proofs.listed.Listed.clashes.Goals as goal

pub loop-earlier-init : goal.loop-earlier-init
loop-earlier-init g c =
    let r = c.args.self.now in
    let es = r.entries.now in
    let ds = c.args.known.now.dones.now in
    let fs = c.args.known.now.forward.now in
    let bs = c.args.known.now.backward.now in
    let n = c.args.place in
    let e = at es n in
    (tt, tt, ahead_all (g.W.Walk.count r.writs.now) (g.W.Walk.comes r.writs.now) writ_node es r.cards (λ j. rivals e (at es j) && apart ds fs bs (at es j).owner) (writ_node e) n (omega (arith, c.requires.within)) (only_rivals es ds fs bs e c.requires.writ) _ (rw c.into_iter-earlier-iterator.ensures.into_iter_gives (c.older_than-earlier-items.ensures ∙ ap (λ m. picks (g.W.Walk.comes r.writs.now m) n) c.card_node.ensures)))

pub bounds-self-earlier : goal.bounds-self-earlier
bounds-self-earlier g c =
    let r = c.args.self.now in
    let es = r.entries.now in
    let ds = c.args.known.now.dones.now in
    let fs = c.args.known.now.forward.now in
    let bs = c.args.known.now.backward.now in
    let n = c.args.place in
    let e = at es n in
    let here = ahead_here (g.W.Walk.count r.writs.now) (g.W.Walk.comes r.writs.now) writ_node es r.cards (λ j. rivals e (at es j) && apart ds fs bs (at es j).owner) (writ_node e) n (omega (arith, c.requires.within)) (only_rivals es ds fs bs e c.requires.writ) c.in-Some.earlier _ _ c.in-Some.ensures.steps c.loop-earlier.invariant.2 in
    omega (arith, here, c.requires.within)

pub offset_bounds-self-earlier : goal.offset_bounds-self-earlier
offset_bounds-self-earlier g c =
    let r = c.args.self.now in
    let es = r.entries.now in
    let ds = c.args.known.now.dones.now in
    let fs = c.args.known.now.forward.now in
    let bs = c.args.known.now.backward.now in
    let n = c.args.place in
    let e = at es n in
    let here = ahead_here (g.W.Walk.count r.writs.now) (g.W.Walk.comes r.writs.now) writ_node es r.cards (λ j. rivals e (at es j) && apart ds fs bs (at es j).owner) (writ_node e) n (omega (arith, c.requires.within)) (only_rivals es ds fs bs e c.requires.writ) c.in-Some.earlier _ _ c.in-Some.ensures.steps c.loop-earlier.invariant.2 in
    omega (arith, here, r.few, c.requires.within)

pub loop-earlier-preserved : goal.loop-earlier-preserved
loop-earlier-preserved g c =
    let r = c.args.self.now in
    let es = r.entries.now in
    let ds = c.args.known.now.dones.now in
    let fs = c.args.known.now.forward.now in
    let bs = c.args.known.now.backward.now in
    let n = c.args.place in
    let e = at es n in
    (tt, tt, ahead_more (g.W.Walk.count r.writs.now) (g.W.Walk.comes r.writs.now) writ_node es r.cards (λ j. rivals e (at es j) && apart ds fs bs (at es j).owner) (writ_node e) n (omega (arith, c.requires.within)) (only_rivals es ds fs bs e c.requires.writ) c.in-Some.earlier _ _ c.in-Some.ensures.steps c.loop-earlier.invariant.2 (grind (arith, nat_tests)))

pub returns-then-is_apart : goal.returns-then-is_apart
returns-then-is_apart g c =
    let r = c.args.self.now in
    let es = r.entries.now in
    let ds = c.args.known.now.dones.now in
    let fs = c.args.known.now.forward.now in
    let bs = c.args.known.now.backward.now in
    let n = c.args.place in
    let e = at es n in
    let here = ahead_here (g.W.Walk.count r.writs.now) (g.W.Walk.comes r.writs.now) writ_node es r.cards (λ j. rivals e (at es j) && apart ds fs bs (at es j).owner) (writ_node e) n (omega (arith, c.requires.within)) (only_rivals es ds fs bs e c.requires.writ) c.in-Some.earlier _ _ c.in-Some.ensures.steps c.loop-earlier.invariant.2 in
    sym (some_hit (λ j. rivals e (at es j) && apart ds fs bs (at es j).owner) n c.in-Some.earlier here (grind (arith, nat_tests)))

pub returns : goal.returns
returns g c =
    let r = c.args.self.now in
    let es = r.entries.now in
    let ds = c.args.known.now.dones.now in
    let fs = c.args.known.now.forward.now in
    let bs = c.args.known.now.backward.now in
    let n = c.args.place in
    let e = at es n in
    sym (none_at_all (λ j. rivals e (at es j) && apart ds fs bs (at es j).owner) n (ahead_none (g.W.Walk.count r.writs.now) (g.W.Walk.comes r.writs.now) writ_node es r.cards (λ j. rivals e (at es j) && apart ds fs bs (at es j).owner) (writ_node e) n (omega (arith, c.requires.within)) (only_rivals es ds fs bs e c.requires.writ) _ c.in-None.ensures.steps.0 c.loop-earlier.invariant.2))

pub older_than-earlier-items-requires : goal.older_than-earlier-items-requires
older_than-earlier-items-requires g c =
    let r = c.args.self.now in
    let es = r.entries.now in
    let ds = c.args.known.now.dones.now in
    let fs = c.args.known.now.forward.now in
    let bs = c.args.known.now.backward.now in
    let n = c.args.place in
    let e = at es n in
    record { inside = omega (arith, c.requires.within, r.cards.each); comes = rw c.card_node.ensures (r.cards.by n c.requires.within) }
