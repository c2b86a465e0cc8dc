use Rattle.std.proofs.Common.{vec_items}
use Rattle.catalogue.specs.Kept.{kept}
use Rattle.sessions.proofs.Replies.{no_abandon}
use Rattle.sessions.proofs.session.Session.abandon.Goals as goal

pub returns-in_default-clause-replied : goal.returns-in_default-clause-replied
returns-in_default-clause-replied g c =
    no_abandon (g.S.Shelf.meaning c.args.shelf.now) (kept c.args.self.now.catalogue) (vec_items c.args.self.now.slips) (vec_items c.take_slip.new.slips)
    c.args.number c.in_default.ensures.taken c.take_slip.ensures.rest
