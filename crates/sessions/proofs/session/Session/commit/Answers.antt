use Rattle.std.proofs.Common.{vec_items}
use Rattle.catalogue.specs.Kept.{kept}
use Rattle.sessions.proofs.Replies.{no_commit, commit_replied}
use Rattle.sessions.proofs.session.Session.commit.Goals as goal

pub returns-in_default-clause-replied : goal.returns-in_default-clause-replied
returns-in_default-clause-replied g c =
    no_commit (g.S.Shelf.meaning c.args.shelf.now) (kept c.args.self.now.catalogue) (vec_items c.args.self.now.slips) (vec_items c.take_slip.new.slips)
    c.args.number c.in_default.ensures.taken c.take_slip.ensures.rest

pub returns-clause-replied : goal.returns-clause-replied
returns-clause-replied g c =
    commit_replied (g.S.Shelf.meaning c.args.shelf.now) (g.S.Shelf.meaning c.commit-committed.new.shelf) (kept c.args.self.now.catalogue) (kept c.commit-committed.new.self)
    (vec_items c.args.self.now.slips) (vec_items c.keep_returned-decided.new.slips) (vec_items c.take_slip.new.slips) c.args.number c.in-Some.handed c.commit-committed.result
    c.keep_returned-decided.result c.in-Some.ensures.taken.0 c.in-Some.ensures.taken.1 c.take_slip.ensures.rest c.commit-committed.ensures.answer
    c.commit-committed.ensures.shelf c.commit-committed.ensures.books c.keep_returned-decided.ensures.decided c.keep_returned-decided.ensures.kept
