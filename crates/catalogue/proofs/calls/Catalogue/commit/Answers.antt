use Rattle.std.proofs.Common.{ap, ◌∙◌}
use Rattle.books.specs.States.{state_of}
use Rattle.transactions.specs.Committing.{commit_answer}
use Rattle.transactions.proofs.Promised.{commit_promised, commit_refusal}
use Rattle.catalogue.specs.Kept.{decision}
use Rattle.catalogue.proofs.Decided.{decided}
use Rattle.catalogue.proofs.calls.Catalogue.commit.Goals as goal

pub returns : goal.returns
returns g c =
    let m = g.S.Shelf.meaning c.args.shelf.now in
    let s = g.met.S.Shelf.sound c.args.shelf.now in
    let b = state_of c.args.self.now.books in
    let n = c.args.slip.number.0 in
    let e = ap decision c.commit.ensures.answer ∙ decided c.args.slip (commit_answer b m n) in
    record {
      answer = c.commit.ensures.answer;
      shelf = c.commit.ensures.shelf;
      books = c.commit.ensures.books;
      law = commit_promised m (g.S.Shelf.meaning c.commit.new.shelf) b (state_of c.commit.new.self) n (decision c.commit.result) s
          e c.commit.ensures.shelf c.commit.ensures.books;
      refusal = commit_refusal m b (state_of c.commit.new.self) n (decision c.commit.result) e c.commit.ensures.books;
    }
