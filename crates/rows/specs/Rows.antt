-- What a row of drawers means: version k + 1 of card c lies at place c * depth + k. Assumes nothing.
--     row_line cards depth used at c              the versions of card c, of which `used c` lie in places, at place p the version `at p`
--     row_of cards width depth used at            the meaning of the row
use Rattle.std.specs.Prelude.{ℕ, ◌+◌, ◌-◌, ◌*◌, cond, ◌&&◌, List, [], ◌∷◌, map, nat_lt}
use Rattle.std.specs.List.{range_with_len}
use Rattle.shelf.specs.Meaning.{Version, Meaning, first_version}
use Rattle.drawers.specs.Fresh.{each_own}

abbrev pub row_line : ℕ → ℕ → (ℕ → ℕ) → (ℕ → Version) → ℕ → List Version
row_line cards depth used at c = cond (nat_lt c cards) (first_version ∷ map (λ k. at (c * depth + k)) (range_with_len 0 (used c))) []

abbrev pub row_of : ℕ → ℕ → ℕ → (ℕ → ℕ) → (ℕ → Version) → Meaning
row_of cards width depth used at =
    record {
      cards = cards;
      width = width;
      line = row_line cards depth used at;
      shares = λ a b. nat_lt a cards && (nat_lt b cards && each_own a b);
      free = λ c. cond (nat_lt c cards) (depth - used c) 0;
    }
