-- Lists with one more element at the end, place by place.
use Rattle.std.proofs.Common.{◌≡◌, ℕ, ◌<◌, List, [], ◌∷◌, ◌++◌, length, get_or, refl}
use Rattle.std.proofs.lemmas.List.{get_or_append_left, get_or_at}
pub use Rattle.rules.proofs.Snoc.{length_snoc, nth_inside, nth_below, nth_snoc}

pub getD_old : {X : Type 0} (xs : List X) (x d : X) (i : ℕ) → i < length xs → get_or (xs ++ x ∷ []) i d ≡ get_or xs i d
getD_old xs x d i lt = get_or_append_left xs (x ∷ []) d i lt

pub getD_new : {X : Type 0} (xs : List X) (x d : X) → get_or (xs ++ x ∷ []) (length xs) d ≡ x
getD_new xs x d = get_or_at xs x [] d (length xs) refl
