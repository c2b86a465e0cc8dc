-- The stamp of a commit, one draft after the other. Assumes nothing.
--     bump_all f ds       plus 1 at each drafted card
use Rattle.std.specs.Prelude.{ℕ, List, [], ◌∷◌}
use Rattle.stamps.specs.Counts.{bumped}
use Rattle.isolation.specs.Account.{Draft}

abbrev pub bump_all : (ℕ → ℕ) → List Draft → ℕ → ℕ
bump_all f [] = f
bump_all f (d ∷ ds) = bump_all (bumped f d.card) ds
