use Rattle.std.proofs.Common.{None, sym, ap, ◌∙◌, arith}
use Rattle.transactions.specs.State.{last_at, numbered}
use Rattle.transactions.specs.Calls.{if_held}
use Rattle.books.specs.States.{state_of, state_with}
use Rattle.tables.specs.Tables.{table_of, with_place}
use Rattle.journals.specs.Journals.{log_of}
use Rattle.books.proofs.CallCases.{found_there}
use Rattle.books.proofs.Held.{held_is, put_back_is}
use Rattle.books.proofs.books.Books.abandon.Goals as goal

pub returns : goal.returns
returns c =
    let b = c.args.self.now in
    let n = c.args.slip.number.0 in
    let i = c.in_ok-place.place in
    let found = found_there (last_at (numbered n) (state_of b).places) i (sym c.place_of.ensures ∙ c.in_ok-place.was) in
    record {
      answer = sym (ap if_held (held_is (state_of b) n i found));
      books =
          ap (λ t. state_with t b.width b.given (log_of b.journal)) (c.release.ensures ∙ ap (λ p. with_place (table_of b.table) p None) (omega arith))
          ∙ sym (put_back_is (state_of b) n i None found);
    }
