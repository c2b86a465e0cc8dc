-- Which version a read answers. Assumes nothing.
--     stamps_of m                 a shelf's stamps: the count of version k of card x at card y
--     value_at m x k              the words of version k of card x
--     version_read rs x           the version in which the readings rs have card x
--     fits_one m x n r            version n of card x fits a card that was read: n's entry for that card is at most the version read, and n is at
--                                 least the entry for x in the stamp of the version read
--     fits_all m x n rs           it fits all cards read so far
--     newest_fit m rs x n         the newest of the versions n, n - 1, .. 0 of card x that does
--     chosen m rs x               what a read of card x answers: the version read before, else the newest that fits
--     lacks m rs                  the shelf lacks a version that was read
--     other_shelf b m rs          the shelf's cards or width are not those of set-up, or it lacks a version read
use Rattle.std.specs.Prelude.{ℕ, zero, suc, Bool, true, false, cond, not, ◌&&◌, ◌||◌, List, [], ◌∷◌, is_some, Some, None, Option, ◌==◌, nat_le}
use Rattle.std.specs.Option.{unwrap_or}
use Rattle.stamps.specs.declared.value.Value.{Value}
use Rattle.stamps.specs.Blank.{blank}
use Rattle.shelf.specs.Meaning.{Meaning, version_at, newest}
use Rattle.shelf.specs.Questions.{value_of, entry_of}
use Rattle.isolation.specs.Account.{Reading}
use Rattle.transactions.specs.State.{State}

abbrev pub stamps_of : Meaning → (card version entry : ℕ) → ℕ
stamps_of m x k y = unwrap_or (entry_of m x k y) 0

abbrev pub value_at : Meaning → (card version : ℕ) → Value
value_at m x k = unwrap_or (value_of m x k) blank

abbrev pub version_read : List Reading → ℕ → Option ℕ
version_read [] x = None
version_read (r ∷ rs) x = cond (r.card == x) (Some r.version) (version_read rs x)

abbrev pub fits_one : Meaning → (x n : ℕ) → Reading → Bool
fits_one m x n r = nat_le (stamps_of m x n r.card) r.version && nat_le (stamps_of m r.card r.version x) n

abbrev pub fits_all : Meaning → (x n : ℕ) → List Reading → Bool
fits_all m x n [] = true
fits_all m x n (r ∷ rs) = fits_one m x n r && fits_all m x n rs

abbrev pub newest_fit : Meaning → List Reading → (x n : ℕ) → Option ℕ
newest_fit m rs x zero = cond (fits_all m x 0 rs) (Some 0) None
newest_fit m rs x (suc n) = cond (fits_all m x (suc n) rs) (Some (suc n)) (newest_fit m rs x n)

abbrev pub or_newest : Meaning → List Reading → ℕ → Option ℕ → Option ℕ
or_newest m rs x (Some k) = Some k
or_newest m rs x None = newest_fit m rs x (newest m x)

abbrev pub chosen : Meaning → List Reading → ℕ → Option ℕ
chosen m rs x = or_newest m rs x (version_read rs x)

abbrev pub lacks : Meaning → List Reading → Bool
lacks m [] = false
lacks m (r ∷ rs) = not (is_some (version_at m r.card r.version)) || lacks m rs

abbrev pub other_shelf : State → Meaning → List Reading → Bool
other_shelf b m rs = not (m.cards == b.cards) || (not (m.width == b.width) || lacks m rs)
