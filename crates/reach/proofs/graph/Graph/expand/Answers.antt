use Rattle.std.proofs.Common.{◌≡◌, ℕ, ◌<◌, true, List, ◌∷◌, length, None, get_or, sym, ap, subst, ◌∙◌, inl, inr, arith}
use Rattle.std.proofs.lemmas.Bool.{cases_lt}
use Rattle.std.proofs.lemmas.List.{length-map, get_or-map}
use Rattle.reach.specs.Links.{from, to, leaves, table}
use Rattle.reach.specs.Paths.{edges, Edge, Marked}
use Rattle.reach.specs.declared.graph.LinkedEdge.{LinkedEdge}
use Rattle.reach.specs.Searches.{waiting}
use Rattle.reach.proofs.LinkLaws.{from_leaves, leaves_from}
use Rattle.reach.proofs.PickLaws.{Passed, passed_none, passed_here, passed_more, passed_all, passed_less}
use Rattle.reach.proofs.SearchLaws.{found_none, found_more}
use Rattle.reach.proofs.graph.Graph.expand.Goals as goal

-- an edge from the node to a node whose mark is clear
abbrev Missed : List (ℕ × ℕ) → ℕ → List ℕ → ℕ → Type 0
Missed es n ms i = (from es i ≡ n) × (to es i < length ms) × (Marked ms (to es i) → ⊥)

leads_on : (es : List (ℕ × ℕ)) (n : ℕ) (ms : List ℕ) (i : ℕ) → Missed es n ms i → leaves es n i ≡ true
leads_on es n ms i m = from_leaves es n i m.0

as_long : (xs : List LinkedEdge) → length (table xs) ≡ length xs
as_long xs = length-map {B = ℕ × ℕ} xs (λ e. (e.from, e.to))

-- the edge that is read is the edge of the graph
read_to : (xs ys : List LinkedEdge) (d : LinkedEdge) (k : ℕ) → ys ≡ xs → k < length (table xs) → (get_or ys k d).to ≡ to (table xs) k
read_to xs ys d k e lt =
    ap (λ (zs : List LinkedEdge). (get_or zs k d).to) e
    ∙ ap (λ (p : ℕ × ℕ). p.1) (sym (get_or-map {Y = ℕ × ℕ} (λ e. (e.from, e.to)) xs k d (0, 0) (omega (arith, as_long xs))))

pub loop-place-init : goal.loop-place-init
loop-place-init c =
    let es = edges c.args.self.now in (
      tt,
      tt,
      found_none c.args.marks.now (waiting c.args.queue.now) c.requires.1,
      passed_none (leaves es c.args.node) (Missed es c.args.node c.args.marks.now) (length es) _ (rw c.into_iter-place-iterator.ensures.into_iter_gives c.edges_from-place-items.ensures),
    )

-- the next place is that of an edge from the node
turn : (es : List (ℕ × ℕ)) (n : ℕ) (ms xs ys : List ℕ) (k : ℕ) → xs ≡ k ∷ ys → Passed (leaves es n) (Missed es n ms) (length es) xs
    → Passed (leaves es n) (Missed es n ms) (length es) (k ∷ ys) × (k < length es) × (from es k ≡ n)
turn es n ms xs ys k e h =
    let ahead : Passed (leaves es n) (Missed es n ms) (length es) (k ∷ ys) = subst (Passed (leaves es n) (Missed es n ms) (length es)) e h in
    let here = passed_here (leaves es n) (Missed es n ms) (length es) k ys ahead in
    (ahead, here.0, leaves_from es n k here.1)

pub offset_bounds-deref-place : goal.offset_bounds-deref-place
offset_bounds-deref-place c =
    let g = c.args.self.now in
    let t = turn (edges g) c.args.node c.loop-place.marks _ _ c.in-Some.place c.in-Some.ensures.steps c.loop-place.invariant.3 in
    omega (arith, t.1, as_long g.edges.items, g.room)

pub bounds-deref-place : goal.bounds-deref-place
bounds-deref-place c =
    let g = c.args.self.now in
    let t = turn (edges g) c.args.node c.loop-place.marks _ _ c.in-Some.place c.in-Some.ensures.steps c.loop-place.invariant.3 in
    rw c.deref.ensures.0 (omega (arith, t.1, as_long g.edges.items))

pub visit-requires : goal.visit-requires
visit-requires c =
    let g = c.args.self.now in
    let t = turn (edges g) c.args.node c.loop-place.marks _ _ c.in-Some.place c.in-Some.ensures.steps c.loop-place.invariant.3 in (
      omega (arith, read_to g.edges.items c.deref.result.now (record { from = 0; to = 0; older = None }) c.in-Some.place c.deref.ensures.0 t.1, (g.within c.in-Some.place t.1).1),
      c.loop-place.invariant.2.room,
    )

pub loop-place-preserved : goal.loop-place-preserved
loop-place-preserved c =
    let g = c.args.self.now in
    let es = edges g in
    let n = c.args.node in
    let k = c.in-Some.place in
    let ms = c.loop-place.marks in
    let ms' = c.visit.new.marks in
    let t = turn es n ms _ _ k c.in-Some.ensures.steps c.loop-place.invariant.3 in
    let to_k = read_to g.edges.items c.deref.result.now (record { from = 0; to = 0; older = None }) k c.deref.ensures.0 t.1 in
    let found = rw to_k at c.visit.ensures.found in
    let marked = rw to_k at c.visit.ensures.marked in
    let edge : (b : ℕ) → b ≡ to es k → Edge es n b = λ b e. record { place = k; inside = t.1; leaves = t.2; leads = sym e } in (
      tt,
      tt,
      found_more edge c.loop-place.invariant.2 found,
      passed_more (leaves es n) (Missed es n ms') (length es) (leads_on es n ms') k _
          (passed_less (leaves es n) (Missed es n ms) (Missed es n ms') (length es) _ (λ i m. (m.0, omega (arith, m.1, found.long), λ x. m.2 (found.marks _ x))) t.0)
          (λ m. m.2 (marked m.1)),
    )

pub returns : goal.returns
returns c =
    let es = edges c.args.self.now in
    let n = c.args.node in
    let ms = c.loop-place.marks in
    let q = leaves es n in
    let done = passed_all q (Missed es n ms) (length es) (leads_on es n ms) (subst (Passed q (Missed es n ms) (length es)) (c.in-None.ensures.steps.0) c.loop-place.invariant.3) in
    record {
      found = c.loop-place.invariant.2;
      closed = λ b e lt. elim (cases_lt 0 (get_or ms b 0)) [
        | inl m ↦ m
        | inr clear ↦ absurd (done e.place e.inside (e.leaves, omega (arith, e.leads), λ m. let z : Marked ms b = subst (Marked ms) e.leads m in omega arith))
      ];
    }
