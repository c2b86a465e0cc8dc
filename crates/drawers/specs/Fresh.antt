-- Shelves just made, and when one fits. Assumes nothing.
--     no_cards                the shelf of no cards
--     fresh s shares          a shelf of the size s: each card at version 0 alone, all places free, drawers shared as told
--     made fits s shares      the fresh shelf if it fits, else the shelf of no cards
--     each_own a b            each card has a drawer of its own
--     all_one a b             all cards are in one drawer
--     within n m              n is from 1 to m
--     size_fits m s           the cards and the width are from 1 to 256, and the places from 1 to m
--     fit_told b              what is told of a size: nothing where it fits (b), else that it does not
use Rattle.std.specs.Prelude.{ℕ, Bool, true, false, cond, ◌&&◌, [], ◌∷◌, ◌==◌, nat_le, nat_lt, Ok, Err, Result}
use Rattle.stamps.specs.Counts.{room}
use Rattle.shelf.specs.Meaning.{Meaning, first_version}
use Rattle.shelf.specs.declared.refusal.CheckRefusal.{CheckRefusal}
use Rattle.shelf.specs.declared.refusal.CheckRefusal.TheVariants.{NoFit}
use Rattle.shelf.specs.declared.size.Size.{Size}

abbrev pub no_cards : Meaning
no_cards = record { cards = 0; width = 0; line = λ _. []; shares = λ _ _. false; free = λ _. 0 }

abbrev pub fresh : Size → (ℕ → ℕ → Bool) → Meaning
fresh s shares =
    record {
      cards = s.cards;
      width = s.width;
      line = λ c. cond (nat_lt c s.cards) (first_version ∷ []) [];
      shares = λ a b. nat_lt a s.cards && (nat_lt b s.cards && shares a b);
      free = λ c. cond (nat_lt c s.cards) s.places 0;
    }

abbrev pub made : Bool → Size → (ℕ → ℕ → Bool) → Meaning
made fits s shares = cond fits (fresh s shares) no_cards

abbrev pub each_own : ℕ → ℕ → Bool
each_own a b = a == b

abbrev pub all_one : ℕ → ℕ → Bool
all_one a b = true

abbrev pub within : ℕ → ℕ → Bool
within n m = nat_le 1 n && nat_le n m

abbrev pub size_fits : ℕ → Size → Bool
size_fits m s = within s.cards room && (within s.width room && within s.places m)

abbrev pub fit_told : Bool → Result (Unit {0}) CheckRefusal
fit_told b = cond b (Ok tt) (Err NoFit)
