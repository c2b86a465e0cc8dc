use Rattle.std.proofs.Common.{Some, sym, ap, ◌∙◌, subst, arith}
use Rattle.splits.specs.Split.{parts, join, Kept}
use Rattle.splits.proofs.split.answers.SplitShelfShelf.put.Goals as goal

pub returns-in-Left-clause-after : goal.returns-in-Left-clause-after
returns-in-Left-clause-after g c =
    let l = g.L.Shelf.meaning c.args.self.now.left in
    let r = g.R.Shelf.meaning c.args.self.now.right in
    let there = c.in_ok-side.ensures.ok_part ∙ ap (λ s. Some (s, c.in_ok-side.card)) c.in-Left.is in
    let k = subst (Kept (parts l r) c.args.card.0) there c.side.ensures in
    ap (λ m. join (parts m r)) c.put.ensures.after
    ∙ sym (k.after c.args.value c.args.writer.0 c.args.counts.now (omega (arith, c.width.ensures, c.if-counts-width.false)))

pub returns-in-Right-clause-after : goal.returns-in-Right-clause-after
returns-in-Right-clause-after g c =
    let l = g.L.Shelf.meaning c.args.self.now.left in
    let r = g.R.Shelf.meaning c.args.self.now.right in
    let there = c.in_ok-side.ensures.ok_part ∙ ap (λ s. Some (s, c.in_ok-side.card)) c.in-Right.is in
    let k = subst (Kept (parts l r) c.args.card.0) there c.side.ensures in
    ap (λ m. join (parts l m)) c.put-in-Right.ensures.after
    ∙ sym (k.after c.args.value c.args.writer.0 c.args.counts.now (omega (arith, c.width.ensures, c.if-counts-width.false)))
