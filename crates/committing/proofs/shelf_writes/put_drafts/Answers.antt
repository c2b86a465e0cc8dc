use Rattle.std.proofs.Common.{◌≡◌, ◌-◌, ◌≤◌, map, length, take, sym, ap, ◌∙◌, add-one, arith}
use Rattle.stamps.specs.Blank.{blank}
use Rattle.stamps.specs.Counts.{room}
use Rattle.shelf.specs.Putting.{after_put}
use Rattle.transactions.specs.Committing.{put_cards}
use Rattle.entries.specs.Contents.{reading, drafting, draft_cards, opening}
use Rattle.committing.proofs.Puts.{put_as, front_fits, front_counts, put_still, put_step}
use Rattle.entries.proofs.Stops.{next_draft, no_draft}
use Rattle.entries.proofs.Walks.{apart_wider}
use Rattle.committing.proofs.shelf_writes.put_drafts.Goals as goal

pub new_stamp-requires : goal.new_stamp-requires
new_stamp-requires g c =
    let m = g.S.Shelf.meaning c.args.shelf.now in
    apart_wider m.cards room (draft_cards (map drafting c.args.drafts.now)) (g.met.S.Shelf.sound c.args.shelf.now).few c.requires.listed

pub loop-draft-preserved : goal.loop-draft-preserved
loop-draft-preserved g c =
    let m = g.S.Shelf.meaning c.args.shelf.now in
    let s = g.met.S.Shelf.sound c.args.shelf.now in
    let es = c.args.drafts.now in
    let it = c.loop-draft.draft-iterator in
    let e = c.in-Some.draft.now in
    let next = next_draft m.cards es it.entries.now it.from c.next.new.self.from c.in-Some.draft c.requires.listed c.loop-draft.invariant.0 c.in-Some.ensures.steps.1 in
    let xs = c.list-counts.result in
    let w = c.width-width.result in
    let o = opening c.args.writer.0 (map reading c.args.reads.now) (map drafting es) in
    let M = g.S.Shelf.meaning c.loop-draft.shelf in
    let zero : w - 0 ≡ m.width = omega (arith, c.width-width.ensures) in
    let now = put_as M _ _ e.card.0 _ c.args.writer.0 _ m.width e.value xs c.put.ensures.after (omega arith) (omega arith) zero in
    let wide : m.width ≤ length xs = omega (arith, c.list-counts.ensures.full, s.narrow) in (
      c.in-Some.ensures.steps.0 ∙ c.loop-draft.invariant.0,
      put_step m s o c.requires.spare it.from e.card.0 e.value (take m.width xs) M (g.S.Shelf.meaning c.put.new.self) next.low next.there
          (front_fits m.width xs wide c.list-counts.ensures.small)
          (front_counts m.width xs _ (c.list-counts.ensures.same ∙ c.new_stamp.ensures))
          (sym (next.words blank)) c.loop-draft.invariant.1
          (put_still m s o c.requires.spare it.from e.card.0 next.onward next.between) now
          ∙ ap (put_cards m o) (sym (add-one e.card.0) ∙ sym next.after),
      omega (arith, next.low, next.after),
    )

pub returns : goal.returns
returns g c =
    let m = g.S.Shelf.meaning c.args.shelf.now in
    let s = g.met.S.Shelf.sound c.args.shelf.now in
    let es = c.args.drafts.now in
    let it = c.loop-draft.draft-iterator in
    let o = opening c.args.writer.0 (map reading c.args.reads.now) (map drafting es) in
    c.loop-draft.invariant.1
    ∙ sym
    (put_still m s o c.requires.spare it.from m.cards c.loop-draft.invariant.2
    (λ k h h'. no_draft es it.entries.now it.from c.next.new.self.from c.loop-draft.invariant.0 c.in-None.ensures.steps.1 k h))
