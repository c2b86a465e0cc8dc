use Rattle.books.specs.States.{state_of}
use Rattle.transactions.proofs.Promised.{draft_promised}
use Rattle.catalogue.proofs.calls.Catalogue.draft.Goals as goal

pub returns : goal.returns
returns c =
    record {
      answer = c.draft.ensures.answer;
      books = c.draft.ensures.books;
      law = λ m. draft_promised m (state_of c.args.self.now.books) (state_of c.draft.new.self) c.args.slip.now.number.0 c.args.card.0 c.args.value c.draft.result
          c.draft.ensures.answer c.draft.ensures.books;
    }
