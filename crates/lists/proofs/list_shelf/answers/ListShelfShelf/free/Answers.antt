use Rattle.std.specs.Vec.{vec_items}
use Rattle.lists.proofs.ListLaws.{free_told}
use Rattle.lists.proofs.list_shelf.answers.ListShelfShelf.free.Goals as goal

pub overflow_sub-result : goal.overflow_sub-result
overflow_sub-result c =
    let s = c.args.self.now in
    (free_told (vec_items s.lists) s.width s.places s.each c.args.card.0 c.in_ok-versions.field-0 c.in_ok-versions.ensures).0

pub returns : goal.returns
returns c =
    let s = c.args.self.now in
    (free_told (vec_items s.lists) s.width s.places s.each c.args.card.0 c.in_ok-versions.field-0 c.in_ok-versions.ensures).1
