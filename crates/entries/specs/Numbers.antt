-- The numbers by which entries are found. Assumes nothing.
--     card_by f e         the card of e as a number, where f gives an entry's card
--     last_of p xs        the last of the elements that pass the test p
--     member ks k         k is one of the numbers ks
--     apart n ks          the numbers ks are below n, and no two are the same
use Rattle.std.specs.Prelude.{ℕ, Bool, true, false, not, ◌&&◌, ◌||◌, List, [], ◌∷◌, Option, ◌==◌, nat_lt}
use Rattle.std.specs.List.{slice_get}
use Rattle.std.specs.Option.{option_and_then}
use Rattle.stamps.specs.declared.numbers.CardNo.{CardNo}
use Rattle.transactions.specs.State.{last_at}

abbrev pub card_by : {X : Type 0} → (X → CardNo) → X → ℕ
card_by f e = (f e).0

abbrev pub last_of : {X : Type 0} → (X → Bool) → List X → Option X
last_of p xs = option_and_then (slice_get xs) (last_at p xs)

abbrev pub member : List ℕ → ℕ → Bool
member [] k = false
member (x ∷ xs) k = x == k || member xs k

abbrev pub apart : ℕ → List ℕ → Bool
apart n [] = true
apart n (x ∷ xs) = nat_lt x n && (not (member xs x) && apart n xs)
