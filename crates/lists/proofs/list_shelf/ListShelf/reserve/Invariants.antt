use Rattle.std.proofs.Common.{◌≡◌, ◌≤◌, length}
use Rattle.std.specs.Vec.{vec_items, vec_capacity}
use Rattle.lists.proofs.NewLists.{AllNew}
use Rattle.lists.proofs.list_shelf.ListShelf.reserve.Given as goal

abbrev pub invariant-loop : goal.invariant-loop
invariant-loop l = record {
  long : length (vec_items l.lists) ≡ l.counter;
  room : l.cards ≤ vec_capacity l.lists;
  new : AllNew l.places (vec_items l.lists);
}
