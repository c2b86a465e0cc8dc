use Rattle.std.proofs.Common.{◌≡◌, ℕ, ◌<◌, ◌≤◌, length, get_or, sym, refl, ap, ◌∙◌, subst, inl, inr, arith}
use Rattle.std.proofs.lemmas.Bool.{cases_lt}
use Rattle.reach.specs.Paths.{edges, Reached, marks_from}
use Rattle.reach.specs.Searches.{waiting, Closed}
use Rattle.reach.proofs.LeadLaws.{reached_marks}
use Rattle.reach.proofs.SearchLaws.{waiting_long, waiting_at, search_none, search_more, closed_more, all_reached, path_inside, path_from_inside}
use Rattle.reach.proofs.graph.Graph.search.Goals as goal

pub returns-then-from-ge-PLACES : goal.returns-then-from-ge-PLACES
returns-then-from-ge-PLACES c =
    let g = c.args.self.now in
    let es = edges g in
    let ms = c.args.marks.now in
    let reached : Reached es c.args.from ms = record {
      sound = λ b m. absurd (c.requires.clear b m);
      complete = λ b p. absurd (omega (arith, path_from_inside es (length ms) (λ k lt. (g.within k lt).0) p));
    } in
    record {
      marks = reached_marks es c.args.from ms reached (search_none es c.args.from ms (waiting c.args.queue.now) c.requires.clear (ap length c.requires.empty)).bits;
      reached = reached;
      listed = λ b m. absurd (c.requires.clear b m);
    }

pub expand-requires : goal.expand-requires
expand-requires c = (
  c.if-from-ge-PLACES.false,
  (search_none (edges c.args.self.now) c.args.from c.args.marks.now (waiting c.args.queue.now) c.requires.clear (ap length c.requires.empty)).room,
)

pub loop-next-init : goal.loop-next-init
loop-next-init c =
    let start = search_none (edges c.args.self.now) c.args.from c.args.marks.now (waiting c.args.queue.now) c.requires.clear (ap length c.requires.empty) in (
      search_more (edges c.args.self.now) c.args.from c.args.from start (inl refl) c.expand.ensures.found,
      c.expand.ensures.closed,
      λ i lt. absurd (omega arith),
      omega arith,
    )

pub expand-requires-in-loop-next : goal.expand-requires-in-loop-next
expand-requires-in-loop-next c =
    let g = c.args.self.now in
    let s = c.loop-next.invariant.0 in
    let q = c.loop-next.queue in
    let at : c.loop-next.next < length (waiting q) = omega (arith, waiting_long q, c.loop-next-test.true) in
    let node = get_or (waiting q) c.loop-next.next 0 in (
      rw (waiting_at q c.loop-next.next at) (path_inside (edges g) (length c.loop-next.marks) (λ k lt. (g.within k lt).1)
          (s.sound node (s.marked c.loop-next.next at))),
      s.room,
    )

pub loop-next-preserved : goal.loop-next-preserved
loop-next-preserved c =
    let es = edges c.args.self.now in
    let inv = c.loop-next.invariant in
    let q = waiting c.loop-next.queue in
    let at : c.loop-next.next < length q = omega (arith, waiting_long c.loop-next.queue, c.loop-next-test.true) in
    let here = waiting_at c.loop-next.queue c.loop-next.next at in
    let node = get_or q c.loop-next.next 0 in
    let path = inv.0.sound node (inv.0.marked c.loop-next.next at) in
    let found = rw here at c.expand-in-loop-next.ensures.found in
    let closed = rw here at c.expand-in-loop-next.ensures.closed in
    let same : (i : ℕ) → i ≤ c.loop-next.next → get_or (waiting c.expand-in-loop-next.new.queue) i 0 ≡ get_or q i 0 =
    λ i le. found.nodes i (omega arith) in (
      search_more es c.args.from node inv.0 (inr path) found,
      closed_more es c.args.from node inv.0 (inr path) found c.args.from inv.1,
      λ i lt. subst (Closed es c.expand-in-loop-next.new.marks) (sym (same i (omega arith)))
          (elim (cases_lt i c.loop-next.next) [
            | inl small ↦ closed_more es c.args.from node inv.0 (inr path) found (get_or q i 0) (inv.2 i small)
            | inr large ↦ let e : c.loop-next.next ≡ i = omega arith in
                subst (λ k. Closed es c.expand-in-loop-next.new.marks (get_or q k 0)) e closed
          ]),
      omega (arith, found.longer),
    )

pub returns : goal.returns
returns c =
    let inv = c.loop-next.invariant in
    let es = edges c.args.self.now in
    let ms = c.loop-next.marks in
    let reached = all_reached es c.args.from ms (waiting c.loop-next.queue) inv.0 (λ i lt. inv.2 i (omega (arith, waiting_long c.loop-next.queue, c.loop-next-test.false))) inv.1 in
    let long : length ms ≡ length c.args.marks.now = omega (arith, c.loop-next.auto.marks, c.expand.auto.marks) in
    record {
      marks = reached_marks es c.args.from ms reached inv.0.bits ∙ ap (marks_from es c.args.from) long;
      reached = reached;
      listed = inv.0.waits;
    }
