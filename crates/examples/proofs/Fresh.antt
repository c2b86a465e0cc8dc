-- A fresh shelf keeps the laws of shelves.
use Rattle.std.proofs.Common.{ℕ, ◌+◌, ◌≤◌, Bool, true, false, cond, ltb, List, [], ◌∷◌, length, sym, refl, ap, subst, arith}
use Rattle.std.specs.List.{slice_get, AllByRecursion}
use Rattle.std.proofs.lemmas.Bool.{lt-ltb, le-ltb}
use Rattle.std.proofs.lemmas.Bool.Decides.{nat_tests}
use Rattle.shelf.specs.Meaning.{Version, first_version}
use Rattle.shelf.specs.Sound.{Sound, Narrow}
use Rattle.examples.specs.Days.{fresh_shelf}

-- a card of the shelf has version 0 alone, and any other none
abbrev versions : Bool → List Version
versions b = cond b (first_version ∷ []) []

zeros : (n : ℕ) (b : Bool) → AllByRecursion (Narrow n) (versions b)
zeros n true = (λ i. (omega arith, λ h. refl), tt)
zeros n false = tt

pub fresh_sound : (n : ℕ) → n ≤ 256 → Sound (fresh_shelf n)
fresh_sound n fits =
    record {
      few = fits;
      narrow = fits;
      first = λ c h. ap (λ b. slice_get (versions b) 0) (lt-ltb c n h);
      roomy = λ c h. subst (λ b. length (versions b) + cond b 8 0 ≤ 65536) (sym (lt-ltb c n h)) (omega arith);
      stamps = λ c. zeros n (ltb c n);
      shares_itself = λ c h. grind (arith, nat_tests);
      shares_back = λ a b h. grind (arith, nat_tests);
      shares_on = λ a b c h k. grind (arith, nat_tests);
      shares_listed = λ a b h. grind (arith, nat_tests);
      drawer = λ a b h. grind (arith, nat_tests);
      no_line = λ c h. ap versions (le-ltb c n h);
      no_free = λ c h. ap (λ b. cond b 8 0) (le-ltb c n h);
    }
