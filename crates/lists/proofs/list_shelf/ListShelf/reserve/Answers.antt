use Rattle.std.proofs.Common.{◌≡◌, length, min, ap, ◌∙◌, arith}
use Rattle.std.specs.Vec.{vec_items}
use Rattle.std.proofs.lemmas.List.{length_push}
use Rattle.lists.specs.Lists.{new_lists}
use Rattle.lists.proofs.NewLists.{new_is_list, none_new, one_more_new, new_meaning}
use Rattle.lists.proofs.list_shelf.ListShelf.reserve.Goals as goal

pub loop-init : goal.loop-init
loop-init c = record {
  long = ap length c.in_ok-lists.ensures.items;
  room = c.in_ok-lists.ensures.capacity;
  new = none_new c.min-places.result (vec_items c.in_ok-lists.lists) c.in_ok-lists.ensures.items;
}

pub push_reserved-requires : goal.push_reserved-requires
push_reserved-requires c = omega (arith, c.loop.invariant.long, c.loop.invariant.room, c.loop-test.true, c.loop.lists.ok.0)

pub loop-preserved : goal.loop-preserved
loop-preserved c =
    let ls = vec_items c.loop.lists in
    let more = c.push_reserved.ensures.items in
    record {
      long = omega (arith, ap length more, length_push ls c.in_ok-new_list.field-0, c.loop.invariant.long);
      room = omega (arith, c.loop.invariant.room, c.push_reserved.ensures.capacity);
      new = one_more_new c.min-places.result ls (vec_items c.push_reserved.new.self) c.in_ok-new_list.field-0 more c.loop.invariant.new c.in_ok-new_list.ensures;
    }

pub invariant_of-result : goal.invariant_of-result
invariant_of-result c = record {
  few = omega (arith, c.loop.invariant.long, c.loop.auto.counter-end, c.min-cards.ensures);
  narrow = omega (arith, c.min.ensures);
  modest = omega (arith, c.min-places.ensures);
  each = λ k v e. new_is_list c.min.result c.min-places.result v (c.loop.invariant.new k v e);
}

pub returns : goal.returns
returns c =
    let all : length (vec_items c.loop.lists) ≡ min c.args.size.cards 256 = omega (arith, c.loop.invariant.long, c.loop.auto.counter-end, c.loop-test.false, c.min-cards.ensures) in
    new_meaning (vec_items c.loop.lists) (min c.args.size.cards 256) c.min.result c.min-places.result all c.loop.invariant.new
    ∙ ap (λ w. new_lists (min c.args.size.cards 256) w c.min-places.result) c.min.ensures
    ∙ ap (new_lists (min c.args.size.cards 256) (min c.args.size.width 256)) c.min-places.ensures
