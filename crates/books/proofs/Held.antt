-- The open transaction with a given number. Assumes nothing.
use Rattle.std.proofs.Common.{◌≡◌, ℕ, ◌<◌, true, List, length, get_or, set, is_some, Some, None, Option, unwrap_or, sym, ap, ◌∙◌, arith}
use Rattle.std.specs.List.{slice_get}
use Rattle.std.proofs.lemmas.Option.{slice_get-get_or}
use Rattle.std.proofs.lemmas.Bool.{eqb-true}
use Rattle.transactions.specs.State.{Open, State, last_at, numbered, standing, at_place, held, with_places, placed, put_back}
use Rattle.tables.specs.Tables.{at, taken, nobody}
use Rattle.entries.proofs.Last.{last_at_holds}

-- place i has transaction n
pub record Holds (ps : List (Option Open)) (n i : ℕ) : Type 0 where
  pub low : i < length ps
  pub open_there : taken ps i ≡ true
  pub is : at_place ps (Some i) ≡ Some (at ps i)
  pub number : (at ps i).number ≡ n

holds_by : (ps : List (Option Open)) (n i : ℕ) → i < length ps → (x : Option Open) → slice_get ps i ≡ Some x → numbered n x ≡ true → Holds ps n i
holds_by ps n i h None e t = let z : ◌≡◌ {A = ℕ} 0 1 = cc in absurd (omega arith)
holds_by ps n i h (Some o) e t =
    let here : at ps i ≡ o = ap (λ y. unwrap_or (standing y) nobody) e in
    record {
      low = h;
      open_there = ap (λ y. is_some (standing y)) e;
      is = ap standing e ∙ ap Some (sym here);
      number = ap (λ p. p.number) here ∙ eqb-true o.number n t;
    }

pub holds_from : (ps : List (Option Open)) (n i : ℕ) → last_at (numbered n) ps ≡ Some i → Holds ps n i
holds_from ps n i e =
    let h = last_at_holds (numbered n) ps i None e in
    holds_by ps n i h.0 (get_or ps i None) (slice_get-get_or ps i None h.0) h.1

-- the transaction that is held, where the search has found its place
pub held_is : (b : State) (n i : ℕ) → last_at (numbered n) b.places ≡ Some i → held b n ≡ Some (at b.places i)
held_is b n i e = ap (at_place b.places) e ∙ (holds_from b.places n i e).is

pub put_back_is : (b : State) (n i : ℕ) (o : Option Open) → last_at (numbered n) b.places ≡ Some i →
    put_back b n o ≡ with_places b (set b.places i o)
put_back_is b n i o e = ap (λ f. with_places b (placed b.places f o)) e
