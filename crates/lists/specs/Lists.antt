-- What a list of a card's versions means. Assumes nothing.
--     version_of k        the version that is kept
--     versions_in o       the versions of a card, by its list, if the shelf has the card
--     free_in p o         how many more its list takes, where p versions can be put
--     lists_of ls w p     the meaning of a shelf of these lists, with w counts in a stamp
--     IsList w p v        what holds of each list
--     IsNew p v           what holds of the list of a card with version 0 alone
--     new_lists n w p     the meaning of a shelf with version 0 of each of n cards
use Rattle.std.specs.Prelude.{◌≡◌, ℕ, suc, ◌-◌, ◌≤◌, ◌&&◌, cond, List, [], ◌∷◌, map, length}
use Rattle.std.specs.Prelude.{Some, None, Option, vec_items, vec_capacity, nat_lt, ◌==◌}
use Rattle.std.specs.Global.{Vec}
use Rattle.std.specs.List.{slice_get}
use Rattle.stamps.specs.Entries.{entries}
use Rattle.shelf.specs.Meaning.{Version, Meaning, first_version}
use Rattle.shelf.specs.Sound.{Narrow}
use Rattle.lists.specs.declared.list_shelf.Kept.{Kept}

abbrev pub version_of : Kept → Version
version_of k = record { value = k.value; writer = k.writer.0; stamp = entries k.stamp }

abbrev pub versions_in : Option (Vec Kept) → List Version
versions_in None = []
versions_in (Some v) = map version_of (vec_items v)

abbrev pub free_in : ℕ → Option (Vec Kept) → ℕ
free_in p None = 0
free_in p (Some v) = suc p - length (vec_items v)

abbrev pub lists_of : List (Vec Kept) → ℕ → ℕ → Meaning
lists_of ls w p =
    record {
      cards = length ls;
      width = w;
      line = λ c. versions_in (slice_get ls c);
      shares = λ a b. nat_lt a (length ls) && a == b;
      free = λ c. free_in p (slice_get ls c);
    }

pub record IsList (w p : ℕ) (v : Vec Kept) : Type 0 where
  pub first : slice_get (map version_of (vec_items v)) 0 ≡ Some first_version
  pub short : length (vec_items v) ≤ suc p
  pub room : suc p ≤ vec_capacity v
  pub narrow :
      (k : ℕ) (x : Kept) → slice_get (vec_items v) k ≡ Some x → Narrow w (version_of x)

pub record IsNew (p : ℕ) (v : Vec Kept) : Type 0 where
  pub only : map version_of (vec_items v) ≡ first_version ∷ []
  pub room : suc p ≤ vec_capacity v

abbrev pub new_lists : ℕ → ℕ → ℕ → Meaning
new_lists n w p =
    record {
      cards = n;
      width = w;
      line = λ c. cond (nat_lt c n) (first_version ∷ []) [];
      shares = λ a b. nat_lt a n && a == b;
      free = λ c. cond (nat_lt c n) p 0;
    }
