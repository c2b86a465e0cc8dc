use Rattle.std.proofs.Common.{vec_items, subst}
use Rattle.books.specs.States.{new_state}
use Rattle.sessions.specs.Exactly.{Held, DoneExactly}
use Rattle.sessions.specs.Holding.{held}
use Rattle.sessions.specs.Ends.{SessionLaw}
use Rattle.sessions.specs.Memory.{Readied}
use Rattle.sessions.proofs.Lawfully.{session_lawful}
use Rattle.sessions.proofs.whole.run.Goals as goal

pub returns : goal.returns
returns g c =
    let m = g.S.Shelf.meaning c.args.shelf.now in
    let n = g.S.Shelf.meaning c.answer_all.new.shelf in
    let b = (held c.memory.inside.session).books in
    let cs = c.memory.inside.script.now in
    let rs = vec_items c.answer_all.new.answers in
    let done : DoneExactly m b cs rs n = record { held = held c.answer_all.new.session; ran = c.answer_all.ensures } in
    let new = subst (λ (h : Held). DoneExactly m h.books cs rs n) c.memory.invariant.new done in
    record {
      exact = subst (λ (z : Readied). DoneExactly m (new_state z.sizes) z.script rs n) c.memory.view_is new;
      law = subst (λ (z : Readied). SessionLaw m z.script rs n) c.memory.view_is (session_lawful m b cs rs n done);
    }
