use Rattle.books.specs.States.{state_of}
use Rattle.transactions.proofs.Promised.{set_up_promised}
use Rattle.catalogue.proofs.calls.Catalogue.set_up.Goals as goal

pub returns : goal.returns
returns g c =
    let m = g.S.Shelf.meaning c.args.shelf.now in
    let s = g.met.S.Shelf.sound c.args.shelf.now in
    record {
      answer = c.set_up.ensures.answer;
      books = c.set_up.ensures.books;
      law = set_up_promised m (state_of c.args.self.now.books) (state_of c.set_up.new.self) c.set_up.result s c.set_up.ensures.answer c.set_up.ensures.books;
    }
