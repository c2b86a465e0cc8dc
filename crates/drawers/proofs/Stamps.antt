-- What the making of a stamp told a shelf of width w. Assumes nothing.
use Rattle.std.proofs.Common.{◌≡◌, ℕ, ◌≤◌, Bool, true, false, cond, List, length, min, IfSome, Some, None, Option, refl, ap, ◌∙◌, arith}
use mathlib.Core.Path.{fun_ext}
use Rattle.std.specs.Prelude.{nat_le}
use Rattle.std.specs.Option.{option_map}
use Rattle.std.proofs.lemmas.Bool.{and_parts}
use Rattle.std.proofs.lemmas.Bool.Decides.{nat_tests}
use Rattle.stamps.specs.Counts.{room, cut, counts_at, countable, all_small}
use Rattle.stamps.specs.Entries.{entries}
use Rattle.stamps.specs.declared.stamp.Stamp.{Stamp}
use Rattle.shelf.proofs.Counts.{cut_short}

-- a stamp made for the width told is not cut
pub kept : (w n : ℕ) (xs : List ℕ) (r : Option Stamp) → n ≡ w → option_map entries r ≡ cond (countable (min n room) xs) (Some (counts_at xs)) None →
    IfSome r (λ x. cut w (entries x) ≡ counts_at xs)
kept w n xs r wide is = go r (countable (min n room) xs) refl is
  where
    go : (r : Option Stamp) (b : Bool) → countable (min n room) xs ≡ b → option_map entries r ≡ cond b (Some (counts_at xs)) None →
        IfSome r (λ x. cut w (entries x) ≡ counts_at xs)
    go None b can is = tt
    go (Some x) true can is =
        let same : entries x ≡ counts_at xs = cc in
        let fits = (and_parts (nat_le (length xs) (min n room)) (all_small xs) can).0 in
        let short : length xs ≤ w = grind (arith, nat_tests, fits, wide) in
        ap (cut w) same ∙ fun_ext (cut_short w xs short)
    go (Some x) false can is = let z : ◌≡◌ {A = ℕ} 0 1 = cc in absurd (omega arith)
