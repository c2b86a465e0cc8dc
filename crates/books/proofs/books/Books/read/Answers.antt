use Rattle.std.proofs.Common.{Some, Ok, Err, sym, ap, ◌∙◌, arith}
use Rattle.std.specs.Option.{option_map}
use Rattle.std.proofs.lemmas.Result.{err_from_is_err_and}
use Rattle.transactions.specs.State.{last_at, numbered}
use Rattle.transactions.specs.Calls.{read_at}
use Rattle.transactions.specs.Choosing.{version_read}
use Rattle.books.specs.States.{state_of}
use Rattle.tables.specs.Tables.{at, seat}
use Rattle.books.proofs.CallCases.{found_there}
use Rattle.entries.proofs.Drafts.{version_read_lacks}
use Rattle.books.proofs.Held.{holds_from}
use Rattle.books.proofs.ReadCases.{tests_passed, read_refused, read_refused_books, read_known, read_known_books, read_new, read_new_books}
use Rattle.books.proofs.books.Books.read.Goals as goal

pub returns-in_err-may_read : goal.returns-in_err-may_read
returns-in_err-may_read g c =
    let b = state_of c.args.self.now in
    let m = g.S.Shelf.meaning c.args.shelf.now in
    let n = c.args.slip.now.number.0 in
    let i = c.in_ok-place.place in
    let f = c.in_err-may_read.field-0.0 in
    let found = found_there (last_at (numbered n) b.places) i (sym c.place_of.ensures ∙ c.in_ok-place.was) in
    let p = err_from_is_err_and c.from_residual-in_err-may_read.result c.from_residual-in_err-may_read.ensures.1 in
    let failed = sym c.may_read.ensures ∙ c.in_err-may_read.was in
    record {
      answer = p.1 ∙ ap Err p.2 ∙ sym (read_refused b m n c.args.card.0 i found f failed);
      books = read_refused_books b m n c.args.card.0 i found f failed;
    }

pub read_first-requires : goal.read_first-requires
read_first-requires g c =
    let b = state_of c.args.self.now in
    let m = g.S.Shelf.meaning c.args.shelf.now in
    let n = c.args.slip.now.number.0 in
    let i = c.in_ok-place.place in
    let x = c.args.card.0 in
    let found = found_there (last_at (numbered n) b.places) i (sym c.place_of.ensures ∙ c.in_ok-place.was) in
    let ok = sym c.may_read.ensures ∙ c.in_ok-may_read.was in
    let none = sym (c.version_read.ensures ∙ ap (λ l. version_read l.reads x) c.at-here.ensures) ∙ ap (option_map (λ v. v.0)) c.in-None.is in
    record {
      taken = (holds_from b.places n i found).open_there;
      listed = (tests_passed b m x (at b.places i) ok).0;
      unread = version_read_lacks (at b.places i).reads x none;
    }

pub returns-in-Some : goal.returns-in-Some
returns-in-Some g c =
    let b = state_of c.args.self.now in
    let m = g.S.Shelf.meaning c.args.shelf.now in
    let n = c.args.slip.now.number.0 in
    let i = c.in_ok-place.place in
    let x = c.args.card.0 in
    let k = c.in-Some.version.0 in
    let found = found_there (last_at (numbered n) b.places) i (sym c.place_of.ensures ∙ c.in_ok-place.was) in
    let ok = sym c.may_read.ensures ∙ c.in_ok-may_read.was in
    let known = sym (c.version_read.ensures ∙ ap (λ l. version_read l.reads x) c.at-here.ensures) ∙ ap (option_map (λ v. v.0)) c.in-Some.is in
    record {
      answer =
          ap Ok c.seen.ensures ∙ ap (λ j. read_at m (seat c.at-here.result).drafts x (Some j)) (omega arith)
          ∙ ap (λ l. read_at m l.drafts x (Some k)) c.at-here.ensures ∙ sym (read_known b m n x i found k ok known);
      books = read_known_books b m n x i found k ok known;
    }

pub returns-in-None : goal.returns-in-None
returns-in-None g c =
    let b = state_of c.args.self.now in
    let m = g.S.Shelf.meaning c.args.shelf.now in
    let n = c.args.slip.now.number.0 in
    let i = c.in_ok-place.place in
    let x = c.args.card.0 in
    let found = found_there (last_at (numbered n) b.places) i (sym c.place_of.ensures ∙ c.in_ok-place.was) in
    let ok = sym c.may_read.ensures ∙ c.in_ok-may_read.was in
    let none = sym (c.version_read.ensures ∙ ap (λ l. version_read l.reads x) c.at-here.ensures) ∙ ap (option_map (λ v. v.0)) c.in-None.is in
    record {
      answer = c.read_first.ensures.answer ∙ sym (read_new b m n x i found ok none);
      books = c.read_first.ensures.books ∙ read_new_books b m n x i found ok none;
    }
