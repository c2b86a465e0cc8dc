-- What the contracts of `Stamp` cite: a stamp as a function from a card's number to its count. Assumes nothing.
--     room, most          how many counts a stamp has room for; the largest count
--     counts_at xs        the list xs, filled up with zeros
--     joined f g          the greater of both, entry by entry
--     bumped f c          plus 1 at c, stopping at `most`; a stamp has no entry past its room
--     cut w f             f below w, and 0 from w on
--     all_small xs        no count of xs is above `most`
--     countable w xs      xs has at most w counts, and none is above `most`
use Rattle.std.specs.Prelude.{ℕ, suc, min, max, Bool, true, cond, ◌&&◌, List, [], ◌∷◌, length, ◌==◌, nat_le, nat_lt, slice_index}

abbrev pub room : ℕ
room = 256

abbrev pub most : ℕ
most = 65535

abbrev pub counts_at : List ℕ → ℕ → ℕ
counts_at xs i = slice_index xs i

abbrev pub joined : (ℕ → ℕ) → (ℕ → ℕ) → ℕ → ℕ
joined f g i = max (f i) (g i)

abbrev pub bumped : (ℕ → ℕ) → ℕ → ℕ → ℕ
bumped f c i = cond (i == c && nat_lt c room) (min (suc (f i)) most) (f i)

abbrev pub cut : ℕ → (ℕ → ℕ) → ℕ → ℕ
cut w f i = cond (nat_lt i w) (f i) 0

abbrev pub all_small : List ℕ → Bool
all_small [] = true
all_small (x ∷ xs) = nat_le x most && all_small xs

abbrev pub countable : ℕ → List ℕ → Bool
countable w xs = nat_le (length xs) w && all_small xs
