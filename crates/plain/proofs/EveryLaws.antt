-- Where every place comes, the one before comes next.
use Rattle.std.proofs.Common.{◌≡◌, ℕ, zero, suc, ◌-◌, ◌≤◌, true, Option, Some, None, refl, ap, arith}
use Rattle.std.specs.Option.{SomeIff}
use Rattle.reach.specs.Links.{picks, first}

pub first_of_all : (n : ℕ) (r : Option ℕ) → SomeIff r (1 ≤ n) (n - 1) → r ≡ first (picks (λ place. true) n)
unfolding picks
first_of_all zero (Some x) h = absurd (omega (arith, h.0))
first_of_all zero None h = refl
first_of_all (suc n) (Some x) h = let e : x ≡ n = omega (arith, h.1) in ap (λ k. Some k) e
first_of_all (suc n) None h = absurd (h (omega arith))
