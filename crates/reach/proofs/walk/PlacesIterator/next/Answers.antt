use Rattle.std.proofs.Common.{◌≡◌, ℕ, ◌<◌, ◌∙◌, ap, sym, subst, Bool, true, Option, Some, ◌∷◌, length, arith}
use Rattle.reach.specs.Links.{picks, behind, bound, first}
use Rattle.reach.specs.declared.walk.Position.{Position}
use Rattle.reach.specs.declared.walk.Position.TheVariants.{Newest, Behind}
use Rattle.reach.proofs.PickLaws.{first_inside, behind_first}
use Rattle.reach.proofs.walk.PlacesIterator.next.Goals as goal
use Rattle.reach.proofs.walk.PlacesIterator.next.Goals.{in-Newest+in_ok-place-in-Newest, in-Behind+in_ok-place-in-Behind}

-- the place k is the next of those that stand before the walk at w, and the others stand behind it
record Next (q : ℕ → Bool) (n : ℕ) (w : Position) (k : ℕ) : Type 0 where
  pub below : k < n
  pub has : q k ≡ true
  pub steps : picks q (bound n w) ≡ k ∷ picks q k

from_newest : (q : ℕ → Bool) (n k j : ℕ) (w : Position) (r : Option ℕ) → w ≡ Newest → r ≡ first (picks q n) → r ≡ Some j → k ≡ j → Next q n w k
from_newest q n k j w r at e is same =
    let has : first (picks q n) ≡ Some k = sym e ∙ is ∙ ap (λ m. Some m) (sym same) in
    let here = first_inside q n k has in
    record { below = here.0; has = here.1; steps = ap (λ v. picks q (bound n v)) at ∙ sym (behind_first q n) ∙ ap (behind q) has }

from_place : (q : ℕ → Bool) (n k j i : ℕ) (w : Position) (r : Option ℕ) → w ≡ Behind i → i < n → r ≡ first (picks q i) → r ≡ Some j → k ≡ j → Next q n w k
from_place q n k j i w r at lt e is same =
    let has : first (picks q i) ≡ Some k = sym e ∙ is ∙ ap (λ m. Some m) (sym same) in
    let here = first_inside q i k has in
    record { below = omega (arith, here.0, lt); has = here.1; steps = ap (λ v. picks q (bound n v)) at ∙ sym (behind_first q i) ∙ ap (behind q) has }

pub invariant_of-self : goal.invariant_of-self
invariant_of-self g c =
    let s = c.args.self.now in
    let q = g.W.Walk.comes s.walk.now s.node in
    let n = g.W.Walk.count s.walk.now in
    let next : Next q n s.position c.match-self.place = elim c.match-self.branch [
      | in-Newest+in_ok-place-in-Newest w ↦ from_newest q n _ _ s.position _ w.in-Newest.is w.newest_from.ensures w.in_ok-place-in-Newest.was w.place-is
      | in-Behind+in_ok-place-in-Behind w ↦
          let at = s.inside w.in-Behind.place w.in-Behind.is in
          from_place q n _ _ w.in-Behind.place s.position _ w.in-Behind.is at.0 (w.next_older.ensures s.node at.0 at.1) w.in_ok-place-in-Behind.was w.place-is
    ] in
    record { inside = λ place e. let same : c.match-self.place ≡ place = cc in subst (λ k. (k < n) × (q k ≡ true)) same (next.below, next.has) }

pub returns-clause-steps : goal.returns-clause-steps
returns-clause-steps g c =
    let s = c.args.self.now in
    let q = g.W.Walk.comes s.walk.now s.node in
    let n = g.W.Walk.count s.walk.now in
    let next : Next q n s.position c.match-self.place = elim c.match-self.branch [
      | in-Newest+in_ok-place-in-Newest w ↦ from_newest q n _ _ s.position _ w.in-Newest.is w.newest_from.ensures w.in_ok-place-in-Newest.was w.place-is
      | in-Behind+in_ok-place-in-Behind w ↦
          let at = s.inside w.in-Behind.place w.in-Behind.is in
          from_place q n _ _ w.in-Behind.place s.position _ w.in-Behind.is at.0 (w.next_older.ensures s.node at.0 at.1) w.in_ok-place-in-Behind.was w.place-is
    ] in
    next.steps

pub returns-clause-goes : goal.returns-clause-goes
returns-clause-goes g c = record { on = λ _. (tt, tt, omega (arith, ap length (returns-clause-steps g c))); keeps = tt; rests = λ _. tt }
