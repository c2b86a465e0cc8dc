use Rattle.std.proofs.Common.{◌≡◌, ◌≤◌, true, length, length-set, nat_lt, Option, sym, ap, ◌∙◌, subst, arith}
use Rattle.std.specs.Global.{Vec}
use Rattle.std.specs.Vec.{vec_items}
use Rattle.std.specs.Option.{option_map}
use Rattle.std.specs.Result.{result_ok}
use Rattle.std.proofs.lemmas.Option.{slice_get_within}
use Rattle.std.proofs.lemmas.Bool.{lt-ltb}
use Rattle.stamps.specs.Entries.{entries}
use Rattle.lists.specs.declared.list_shelf.Kept.{Kept}
use Rattle.lists.specs.Lists.{free_in}
use Rattle.lists.specs.ListMeaning.{list_meaning}
use Rattle.lists.proofs.ListLaws.{room_told, each_put, lists_added, same_counts, fits, slim_stamp, after_told}
use Rattle.lists.proofs.list_shelf.answers.ListShelfShelf.put.Goals as goal

pub push_reserved-requires : goal.push_reserved-requires
push_reserved-requires c =
    let s = c.args.self.now in
    let v = c.index_mut.result.now in
    let is = sym c.free.ensures ∙ c.ok_or.ensures.ok_part ∙ ap result_ok c.in_ok-free.was in
    let (at, short) = room_told (vec_items s.lists) s.width s.places s.each c.args.card.0 c.in_ok-free.free v (sym is) c.if-free-eq0.false c.index_mut.ensures.value in
    omega (arith, (s.each c.args.card.0 v at).room, short, v.ok.0)

pub invariant_of-self : goal.invariant_of-self
invariant_of-self c =
    let s = c.args.self.now in
    let ls = vec_items s.lists in
    let v = c.index_mut.result.now in
    let xs = c.args.counts.now in
    let x = c.in_ok-stamp.stamp in
    let is = sym c.free.ensures ∙ c.ok_or.ensures.ok_part ∙ ap result_ok c.in_ok-free.was in
    let (at, short) = room_told ls s.width s.places s.each c.args.card.0 c.in_ok-free.free v (sym is) c.if-free-eq0.false c.index_mut.ensures.value in
    let made = sym (ap (option_map entries) (c.ok_or-2.ensures.ok_part ∙ ap result_ok c.in_ok-stamp.was)) ∙ c.from_counts.ensures in
    let few : length xs ≤ s.width = omega (arith, c.if-counts-self.false) in
    let k : Kept = record { value = c.args.value; writer = c.args.writer; stamp = x } in
    record {
      few = omega (arith, s.few, length-set ls c.args.card.0 c.push_reserved.new.self);
      narrow = s.narrow;
      modest = s.modest;
      each = each_put ls s.width s.places s.each c.args.card.0 v c.push_reserved.new.self k at short c.push_reserved.ensures.items c.push_reserved.ensures.capacity
          (slim_stamp s.width xs x few made);
    }

pub returns-clause-after : goal.returns-clause-after
returns-clause-after c =
    let s = c.args.self.now in
    let ls = vec_items s.lists in
    let v = c.index_mut.result.now in
    let xs = c.args.counts.now in
    let x = c.in_ok-stamp.stamp in
    let i = c.args.card.0 in
    let is = sym c.free.ensures ∙ c.ok_or.ensures.ok_part ∙ ap result_ok c.in_ok-free.was in
    let (at, short) = room_told ls s.width s.places s.each i c.in_ok-free.free v (sym is) c.if-free-eq0.false c.index_mut.ensures.value in
    let made = sym (ap (option_map entries) (c.ok_or-2.ensures.ok_part ∙ ap result_ok c.in_ok-stamp.was)) ∙ c.from_counts.ensures in
    let few : length xs ≤ s.width = omega (arith, c.if-counts-self.false) in
    let k : Kept = record { value = c.args.value; writer = c.args.writer; stamp = x } in
    let left = subst (λ (o : Option (Vec Kept)). nat_lt 0 (free_in s.places o) ≡ true) (sym at) (lt-ltb 0 _ (omega (arith, short))) in
    after_told (list_meaning s) i c.args.value c.args.writer.0 xs x _ (lt-ltb i (length ls) (slice_get_within ls i v at)) (fits s.width xs x few made) left (same_counts s.width xs x few made)
    (lists_added ls s.width s.places s.each i v c.push_reserved.new.self k at short c.push_reserved.ensures.items c.push_reserved.ensures.capacity (slim_stamp s.width xs x few made))
