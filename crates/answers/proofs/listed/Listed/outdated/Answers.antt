use Rattle.std.proofs.Common.{suc, ◌%◌, ◌&&◌, length, sym, ap, ◌∙◌, arith}
use Rattle.std.proofs.lemmas.Bool.Decides.{nat_tests}
use Rattle.reach.specs.Links.{picks}
use Rattle.digest.specs.Entries.{at, newer}
use Rattle.digest.proofs.LinkLaws.{ahead_all, ahead_here, ahead_after, ahead_more, ahead_none}
use Rattle.answers.specs.Questions.{marked, writ_node}
use Rattle.answers.proofs.TestLaws.{some_hit}
use Rattle.answers.proofs.WalkLaws.{none_at_all, only_newer, none_older_than}
use Rattle.answers.proofs.listed.Listed.outdated.Goals as goal

pub loop-place-init : goal.loop-place-init
loop-place-init g c =
    let r = c.args.self.now in
    let es = r.entries.now in
    let ms = c.args.marks.now in
    let read = c.args.read.now in
    (tt, tt, ahead_all (g.W.Walk.count r.writs.now) (g.W.Walk.comes r.writs.now) writ_node es r.cards (λ j. newer (at es j) read && marked ms (at es j).owner) (read.card.0 % 2048) (length es) (omega (arith)) (only_newer es ms read) _ (rw c.into_iter-place-iterator.ensures.into_iter_gives (c.from_node-place-items.ensures ∙ ap (λ m. picks (g.W.Walk.comes r.writs.now m) (g.W.Walk.count r.writs.now)) c.node_of.ensures ∙ ap (picks (g.W.Walk.comes r.writs.now (read.card.0 % 2048))) r.cards.each)))

pub bounds-self-place : goal.bounds-self-place
bounds-self-place g c =
    let r = c.args.self.now in
    let es = r.entries.now in
    let ms = c.args.marks.now in
    let read = c.args.read.now in
    let here = ahead_here (g.W.Walk.count r.writs.now) (g.W.Walk.comes r.writs.now) writ_node es r.cards (λ j. newer (at es j) read && marked ms (at es j).owner) (read.card.0 % 2048) (length es) (omega (arith)) (only_newer es ms read) c.in-Some.place _ _ c.in-Some.ensures.steps c.loop-place.invariant.2 in
    omega (arith, here)

pub offset_bounds-self-place : goal.offset_bounds-self-place
offset_bounds-self-place g c =
    let r = c.args.self.now in
    let es = r.entries.now in
    let ms = c.args.marks.now in
    let read = c.args.read.now in
    let here = ahead_here (g.W.Walk.count r.writs.now) (g.W.Walk.comes r.writs.now) writ_node es r.cards (λ j. newer (at es j) read && marked ms (at es j).owner) (read.card.0 % 2048) (length es) (omega (arith)) (only_newer es ms read) c.in-Some.place _ _ c.in-Some.ensures.steps c.loop-place.invariant.2 in
    omega (arith, here, r.few)

pub loop-place-preserved : goal.loop-place-preserved
loop-place-preserved g c =
    let r = c.args.self.now in
    let es = r.entries.now in
    let ms = c.args.marks.now in
    let read = c.args.read.now in
    (tt, tt, ahead_more (g.W.Walk.count r.writs.now) (g.W.Walk.comes r.writs.now) writ_node es r.cards (λ j. newer (at es j) read && marked ms (at es j).owner) (read.card.0 % 2048) (length es) (omega (arith)) (only_newer es ms read) c.in-Some.place _ _ c.in-Some.ensures.steps c.loop-place.invariant.2 (grind (arith, nat_tests)))

pub returns-then-is_marked : goal.returns-then-is_marked
returns-then-is_marked g c =
    let r = c.args.self.now in
    let es = r.entries.now in
    let ms = c.args.marks.now in
    let read = c.args.read.now in
    let here = ahead_here (g.W.Walk.count r.writs.now) (g.W.Walk.comes r.writs.now) writ_node es r.cards (λ j. newer (at es j) read && marked ms (at es j).owner) (read.card.0 % 2048) (length es) (omega (arith)) (only_newer es ms read) c.in-Some.place _ _ c.in-Some.ensures.steps c.loop-place.invariant.2 in
    sym (some_hit (λ j. newer (at es j) read && marked ms (at es j).owner) (length es) c.in-Some.place here (grind (arith, nat_tests)))

pub returns : goal.returns
returns g c =
    let r = c.args.self.now in
    let es = r.entries.now in
    let ms = c.args.marks.now in
    let read = c.args.read.now in
    sym (none_at_all (λ j. newer (at es j) read && marked ms (at es j).owner) (length es) (ahead_none (g.W.Walk.count r.writs.now) (g.W.Walk.comes r.writs.now) writ_node es r.cards (λ j. newer (at es j) read && marked ms (at es j).owner) (read.card.0 % 2048) (length es) (omega (arith)) (only_newer es ms read) _ c.in-None.ensures.steps.0 c.loop-place.invariant.2))

pub returns-then-place-read : goal.returns-then-place-read
returns-then-place-read g c =
    let r = c.args.self.now in
    let es = r.entries.now in
    let ms = c.args.marks.now in
    let read = c.args.read.now in
    let after = ahead_after (g.W.Walk.count r.writs.now) (g.W.Walk.comes r.writs.now) writ_node es r.cards (λ j. newer (at es j) read && marked ms (at es j).owner) (read.card.0 % 2048) (length es) (omega (arith)) (only_newer es ms read) c.in-Some.place _ _ c.in-Some.ensures.steps c.loop-place.invariant.2 in
    sym (none_at_all (λ j. newer (at es j) read && marked ms (at es j).owner) (length es) (none_older_than es r.sound ms read (suc c.in-Some.place) (omega arith) after))
