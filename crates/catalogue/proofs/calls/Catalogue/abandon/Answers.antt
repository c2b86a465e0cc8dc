use Rattle.books.specs.States.{state_of}
use Rattle.transactions.proofs.Promised.{abandon_promised}
use Rattle.catalogue.proofs.calls.Catalogue.abandon.Goals as goal

pub returns : goal.returns
returns c =
    record {
      answer = c.abandon.ensures.answer;
      books = c.abandon.ensures.books;
      law = λ m. abandon_promised m (state_of c.args.self.now.books) (state_of c.abandon.new.self) c.args.slip.number.0 c.abandon.result
          c.abandon.ensures.answer c.abandon.ensures.books;
    }
