use Rattle.books.specs.States.{state_of}
use Rattle.books.proofs.CallCases.{place_to_open}
use Rattle.books.proofs.books.Books.place_to_open.Goals as goal

pub returns : goal.returns
returns c = place_to_open (state_of c.args.self.now).places c.free_place.result c.ok_or.result c.ok_or.ensures.value c.free_place.ensures
