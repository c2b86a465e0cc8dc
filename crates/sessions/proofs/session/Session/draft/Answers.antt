use Rattle.std.proofs.Common.{◌≡◌, true, vec_items, subst}
use Rattle.catalogue.specs.Kept.{kept}
use Rattle.sessions.specs.Slips.{holds}
use Rattle.sessions.proofs.Replies.{draft_replied}
use Rattle.sessions.proofs.session.Session.draft.Goals as goal

pub returns-clause-replied : goal.returns-clause-replied
returns-clause-replied g c =
    let held = subst (λ xs. holds xs c.args.number.0 ≡ true) c.deref.ensures.value c.in-Some.ensures.0 in
    draft_replied (g.S.Shelf.meaning c.args.shelf.now) (kept c.args.self.now.catalogue) (kept c.draft-drafted.new.self) (vec_items c.args.self.now.slips)
    c.args.number c.in-Some.slip.now.number c.args.card c.args.value c.draft-drafted.result held c.in-Some.ensures.1 c.draft-drafted.ensures.answer
    c.draft-drafted.ensures.books
