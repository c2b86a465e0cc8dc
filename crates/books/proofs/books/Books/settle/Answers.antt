use Rattle.std.proofs.Common.{sym, ◌∙◌}
use Rattle.transactions.specs.State.{last_at, numbered}
use Rattle.books.specs.States.{state_of}
use Rattle.books.proofs.CallCases.{found_there}
use Rattle.books.proofs.CommitCases.{commit_is, committed_shelf, committed_books, refused_shelf, refused_books}
use Rattle.books.proofs.Held.{holds_from}
use Rattle.books.proofs.books.Books.settle.Goals as goal

pub carry_out-requires : goal.carry_out-requires
carry_out-requires g c =
    let b = state_of c.args.self.now in
    let m = g.S.Shelf.meaning c.args.shelf.now in
    let n = c.args.number.0 in
    let i = c.in_ok-place.place in
    let found = found_there (last_at (numbered n) b.places) i (sym c.place_of.ensures ∙ c.in_ok-place.was) in
    let held = holds_from b.places n i found in
    record { taken = held.open_there; number = held.number; granted = sym c.decide.ensures ∙ c.in_default.is }

pub returns : goal.returns
returns g c =
    let b = state_of c.args.self.now in
    let m = g.S.Shelf.meaning c.args.shelf.now in
    let n = c.args.number.0 in
    let i = c.in_ok-place.place in
    let found = found_there (last_at (numbered n) b.places) i (sym c.place_of.ensures ∙ c.in_ok-place.was) in
    let ok = sym c.decide.ensures ∙ c.in_default.is in
    record {
      answer = sym (commit_is b m n i found ∙ ok);
      shelf = c.carry_out.ensures.shelf ∙ committed_shelf b m n i found ok;
      books = c.carry_out.ensures.books ∙ committed_books b m n i found ok;
    }

pub returns-in-Err : goal.returns-in-Err
returns-in-Err g c =
    let b = state_of c.args.self.now in
    let m = g.S.Shelf.meaning c.args.shelf.now in
    let n = c.args.number.0 in
    let i = c.in_ok-place.place in
    let found = found_there (last_at (numbered n) b.places) i (sym c.place_of.ensures ∙ c.in_ok-place.was) in
    let f = c.in-Err.refusal in
    let no' = sym c.decide.ensures ∙ c.in-Err.is in
    record {
      answer = sym (commit_is b m n i found ∙ no');
      shelf = refused_shelf b m n i found f no';
      books = c.refuse.ensures ∙ refused_books b m n i found f no';
    }
