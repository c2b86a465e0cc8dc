use Rattle.books.specs.States.{state_of, number_given}
use Rattle.transactions.proofs.Promised.{open_promised}
use Rattle.catalogue.proofs.calls.Catalogue.open.Goals as goal

pub returns : goal.returns
returns c =
    record {
      answer = c.open.ensures.answer;
      books = c.open.ensures.books;
      law = λ m. open_promised m (state_of c.args.self.now.books) (state_of c.open.new.self) (number_given c.open.result) c.open.ensures.answer c.open.ensures.books;
    }
