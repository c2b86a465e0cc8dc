use Rattle.std.proofs.Common.{◌≡◌, ℕ, ◌<◌, true, false, List, [], ◌∷◌, length, sym, ap, ◌∙◌, subst, arith}
use Rattle.reach.specs.Links.{leaves, picks}
use Rattle.reach.specs.Paths.{edges}
use Rattle.reach.proofs.PickLaws.{Passed, passed_none, passed_here, passed_more, passed_all}
use Rattle.records.specs.Format.{decoded}
use Rattle.records.specs.Parts.{part}
use Rattle.scan.specs.Scanning.{deed_told, node}
use Rattle.scan.specs.declared.told.Told.{Told}
use Rattle.scan.specs.declared.deed.Deed.{Deed}
use Rattle.scan.proofs.Scans.{Telling, linked_there, some_here, read_as_line, none_of_all}
use Rattle.scan.proofs.told.Told.tells.Goals as goal

-- the places of the transaction's node, and what is looked for at each
abbrev Left : Told → ℕ → Deed → List ℕ → Type 0
Left s t d xs = Passed (leaves (edges s.links) (node t)) (Telling (deed_told d t) s.file.now s.count) (length (edges s.links)) xs

-- the next place is that of a record
turn : (s : Told) (t : ℕ) (d : Deed) (xs ys : List ℕ) (k : ℕ) → xs ≡ k ∷ ys → Left s t d xs → Left s t d (k ∷ ys) × (k < s.count)
turn s t d xs ys k e h =
    let ahead : Left s t d (k ∷ ys) = subst (Left s t d) e h in
    let here = passed_here (leaves (edges s.links) (node t)) (Telling (deed_told d t) s.file.now s.count) (length (edges s.links)) k ys ahead in
    (ahead, omega (arith, here.0, s.seen.each))

pub loop-place-init : goal.loop-place-init
loop-place-init c =
    let s = c.args.self.now in (
      tt,
      tt,
      passed_none (leaves (edges s.links) (node c.args.by.0)) (Telling (deed_told c.args.deed c.args.by.0) s.file.now s.count) (length (edges s.links)) _
          (rw c.into_iter-place-iterator.ensures.into_iter_gives (c.edges_from-place-items.ensures ∙ ap (λ (m : ℕ). picks (leaves (edges s.links) m) (length (edges s.links))) c.node_of.ensures)),
    )

pub record-requires : goal.record-requires
record-requires c = (turn c.args.self.now c.args.by.0 c.args.deed _ _ c.in-Some.place c.in-Some.ensures.steps c.loop-place.invariant.2).1

pub returns-then-shows : goal.returns-then-shows
returns-then-shows c =
    let s = c.args.self.now in
    let bs = s.file.now in
    let k = c.in-Some.place in
    let within = (turn s c.args.by.0 c.args.deed _ _ k c.in-Some.ensures.steps c.loop-place.invariant.2).1 in
    let (l, is) = read_as_line (decoded (part bs k)) (s.good k within) in
    sym (some_here (deed_told c.args.deed c.args.by.0) bs k s.count l within is (sym (c.shows.ensures l (ap decoded c.record.ensures ∙ is)) ∙ c.if-shows.true))

pub loop-place-preserved : goal.loop-place-preserved
loop-place-preserved c =
    let s = c.args.self.now in
    let t = c.args.by.0 in
    let d = c.args.deed in
    let told : Telling (deed_told d t) s.file.now s.count c.in-Some.place → ⊥ =
    λ (lt, (l, is, tells)). let z : true ≡ false = sym tells ∙ sym (c.shows.ensures l (ap decoded c.record.ensures ∙ is)) ∙ c.if-shows.false in absurd (cc) in (
      tt,
      tt,
      passed_more (leaves (edges s.links) (node t)) (Telling (deed_told d t) s.file.now s.count) (length (edges s.links)) (linked_there s.file.now s.count (edges s.links) d t s.seen)
          c.in-Some.place _ (turn s t d _ _ c.in-Some.place c.in-Some.ensures.steps c.loop-place.invariant.2).0 told,
    )

pub returns : goal.returns
returns c =
    let s = c.args.self.now in
    let t = c.args.by.0 in
    let d = c.args.deed in
    let done : Left s t d [] = subst (Left s t d) c.in-None.ensures.steps.0 c.loop-place.invariant.2 in
    sym (none_of_all (deed_told d t) s.file.now s.count s.good
    (λ i lt. passed_all (leaves (edges s.links) (node t)) (Telling (deed_told d t) s.file.now s.count) (length (edges s.links)) (linked_there s.file.now s.count (edges s.links) d t s.seen)
    done i (omega (arith, lt, s.seen.each))))
