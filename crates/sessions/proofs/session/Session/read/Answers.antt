use Rattle.std.proofs.Common.{◌≡◌, true, vec_items, subst}
use Rattle.catalogue.specs.Kept.{kept}
use Rattle.sessions.specs.Slips.{holds}
use Rattle.sessions.proofs.Replies.{read_replied}
use Rattle.sessions.proofs.session.Session.read.Goals as goal

pub returns-clause-replied : goal.returns-clause-replied
returns-clause-replied g c =
    let held = subst (λ xs. holds xs c.args.number.0 ≡ true) c.deref.ensures.value c.in-Some.ensures.0 in
    read_replied (g.S.Shelf.meaning c.args.shelf.now) (kept c.args.self.now.catalogue) (kept c.read-read.new.self) (vec_items c.args.self.now.slips)
    c.args.number c.in-Some.slip.now.number c.args.card c.read-read.result held c.in-Some.ensures.1 c.read-read.ensures.answer c.read-read.ensures.books
