use Rattle.books.specs.States.{state_of}
use Rattle.transactions.proofs.Promised.{read_promised, read_refusal}
use Rattle.catalogue.proofs.calls.Catalogue.read.Goals as goal

pub returns : goal.returns
returns g c =
    let m = g.S.Shelf.meaning c.args.shelf.now in
    record {
      answer = c.read.ensures.answer;
      books = c.read.ensures.books;
      law = read_promised m (state_of c.args.self.now.books) (state_of c.read.new.self) c.args.slip.now.number.0 c.args.card.0 c.read.result
          c.read.ensures.answer c.read.ensures.books;
      refusal = read_refusal m (state_of c.args.self.now.books) (state_of c.read.new.self) c.args.slip.now.number.0 c.args.card.0 c.read.result
          c.read.ensures.answer c.read.ensures.books;
    }
