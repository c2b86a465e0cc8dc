use Rattle.std.proofs.Common.{◌≡◌, List, length, Some, sym, subst, arith}
use Rattle.std.specs.Global.{Vec}
use Rattle.std.specs.Vec.{vec_items}
use Rattle.std.specs.List.{slice_get}
use Rattle.std.proofs.lemmas.Bool.{ltb-true}
use Rattle.lists.specs.declared.list_shelf.Kept.{Kept}
use Rattle.lists.proofs.ListLaws.{found, versions_told}
use Rattle.lists.proofs.list_shelf.answers.ListShelfShelf.versions.Goals as goal

pub overflow_cast-result : goal.overflow_cast-result
overflow_cast-result c =
    let s = c.args.self.now in
    let v = c.in_ok-get.field-0.now in
    let lookup = c.in_ok-get.ensures.lookup in
    let at = subst (λ (xs : List (Vec Kept)). slice_get xs c.args.card.0 ≡ Some v) c.deref.ensures.value (found c.deref.result.now c.args.card.0 v (ltb-true _ _ (sym lookup.0)) lookup.1) in
    omega (arith, (s.each c.args.card.0 v at).short, s.modest, c.len.ensures, v.ok.0)

pub returns : goal.returns
returns c =
    let s = c.args.self.now in
    let v = c.in_ok-get.field-0.now in
    let lookup = c.in_ok-get.ensures.lookup in
    let at = subst (λ (xs : List (Vec Kept)). slice_get xs c.args.card.0 ≡ Some v) c.deref.ensures.value (found c.deref.result.now c.args.card.0 v (ltb-true _ _ (sym lookup.0)) lookup.1) in
    let long : c.len.result ≡ length (vec_items v) = omega (arith, c.len.ensures, v.ok.0) in
    versions_told (vec_items s.lists) s.width s.places s.each c.args.card.0 c.len.result v at long
