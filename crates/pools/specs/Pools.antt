-- What a pool of places means: every version lies in the next free place. Assumes nothing.
--     pool_line cards used owner at c             the versions of card c, of those that lie in the first `used` places
--     pool_of cards width size used owner at      the meaning of the pool
use Rattle.std.specs.Prelude.{ℕ, ◌-◌, cond, ◌&&◌, List, [], ◌∷◌, nat_lt}
use Rattle.pools.specs.Chains.{gathered}
use Rattle.drawers.specs.Fresh.{all_one}
use Rattle.shelf.specs.Meaning.{Version, Meaning, first_version}

abbrev pub pool_line : ℕ → ℕ → (ℕ → ℕ) → (ℕ → Version) → ℕ → List Version
pool_line cards used owner at c = cond (nat_lt c cards) (first_version ∷ gathered owner at c used) []

abbrev pub pool_of : ℕ → ℕ → ℕ → ℕ → (ℕ → ℕ) → (ℕ → Version) → Meaning
pool_of cards width size used owner at =
    record {
      cards = cards;
      width = width;
      line = pool_line cards used owner at;
      shares = λ a b. nat_lt a cards && (nat_lt b cards && all_one a b);
      free = λ c. cond (nat_lt c cards) (size - used) 0;
    }
