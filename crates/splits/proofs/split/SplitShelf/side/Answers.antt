use Rattle.std.proofs.Common.{refl}
use Rattle.splits.specs.Split.{parts}
use Rattle.splits.proofs.SplitPuts.{kept_nowhere, kept_left, kept_right}
use Rattle.splits.proofs.split.SplitShelf.side.Goals as goal

pub returns-then-card-cards : goal.returns-then-card-cards
returns-then-card-cards g c =
    let p = parts (g.L.Shelf.meaning c.args.self.now.left) (g.R.Shelf.meaning c.args.self.now.right) in
    kept_nowhere p c.args.card.0 _ c.cards.result refl c.cards.ensures c.if-card-cards.true

pub returns-then-card-on_left : goal.returns-then-card-on_left
returns-then-card-on_left g c =
    let p = parts (g.L.Shelf.meaning c.args.self.now.left) (g.R.Shelf.meaning c.args.self.now.right) in
    kept_left p c.args.card.0 c.args.self.now.on_left c.cards.result c.args.self.now.told_on_left c.cards.ensures c.if-card-cards.false c.if-card-on_left.true

pub returns : goal.returns
returns g c =
    let p = parts (g.L.Shelf.meaning c.args.self.now.left) (g.R.Shelf.meaning c.args.self.now.right) in
    kept_right p c.args.card.0 c.args.self.now.on_left c.cards.result c.args.self.now.told_on_left c.cards.ensures c.if-card-cards.false c.if-card-on_left.false
