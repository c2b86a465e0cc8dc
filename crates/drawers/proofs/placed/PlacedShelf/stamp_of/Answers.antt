use Rattle.drawers.proofs.Stamps.{kept}
use Rattle.drawers.proofs.placed.PlacedShelf.stamp_of.Goals as goal

pub returns-clause-kept : goal.returns-clause-kept
returns-clause-kept g c =
    kept (g.D.Drawers.meaning c.args.self.now.drawers).width c.width.result c.args.counts.now c.stamp_from.result c.width.ensures c.stamp_from.ensures
