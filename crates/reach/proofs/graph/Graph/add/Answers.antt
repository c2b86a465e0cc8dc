use Rattle.std.proofs.Common.{◌≡◌, ℕ, ◌≤◌, List, [], ◌∷◌, ◌++◌, length, get_or, Option, None, refl, sym, ◌∙◌, arith, length-append}
use Rattle.std.proofs.lemmas.Bool.Decides.{nat_tests}
use Rattle.std.proofs.lemmas.List.{length-map, map-append}
use Rattle.reach.specs.Links.{places, table, olders}
use Rattle.reach.specs.Paths.{edges}
use Rattle.reach.specs.declared.graph.LinkedEdge.{LinkedEdge}
use Rattle.reach.proofs.LinkLaws.{within_add, newest_add, older_add}
use Rattle.reach.proofs.graph.Graph.add.Goals as goal

as_long : (xs : List LinkedEdge) → length (table xs) ≡ length xs
as_long xs = length-map {B = ℕ × ℕ} xs (λ e. (e.from, e.to))

more_table : (xs : List LinkedEdge) (e : LinkedEdge) → table (xs ++ e ∷ []) ≡ table xs ++ (e.from, e.to) ∷ []
more_table xs e = map-append {B = ℕ × ℕ} (λ e. (e.from, e.to)) xs (e ∷ [])

more_olders : (xs : List LinkedEdge) (e : LinkedEdge) → olders (xs ++ e ∷ []) ≡ olders xs ++ e.older ∷ []
more_olders xs e = map-append {B = Option ℕ} (λ e. e.older) xs (e ∷ [])

pub returns-then-place-ge-PLACES : goal.returns-then-place-ge-PLACES
returns-then-place-ge-PLACES c =
    let len = as_long c.args.self.now.edges.items in
    record { added = refl; taken = grind (arith, nat_tests) }

pub invariant_of-self : goal.invariant_of-self
invariant_of-self c =
    let g = c.args.self.now in
    let es = edges g in
    let len : length es ≡ c.len-place.result = as_long g.edges.items ∙ sym c.len-place.ensures.value in
    let old : length (olders g.edges.items) ≡ length es = length-map {B = Option ℕ} g.edges.items (λ e. e.older) ∙ sym (as_long g.edges.items) in
    let long : places ≤ length g.newest = omega arith in
    rw (c.push.ensures.items, more_table, more_olders, ← len) (record {
      room = omega (arith, length-append g.edges.items (record { from = c.args.from; to = c.args.to; older = get_or g.newest c.args.from None } ∷ []));
      within = within_add es c.args.from c.args.to (omega arith) (omega arith) g.within;
      starts = newest_add es c.args.from c.args.to g.newest long (omega arith) g.starts;
      onward = older_add es c.args.from c.args.to g.newest (olders g.edges.items) old (omega arith) g.starts g.onward;
    })

pub returns : goal.returns
returns c =
    let len = as_long c.args.self.now.edges.items in
    record { added = rw c.push.ensures.items (more_table _ _); taken = grind (arith, nat_tests) }
