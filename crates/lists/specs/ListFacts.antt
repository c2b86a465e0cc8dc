-- A shelf of lists keeps the laws of every shelf. Assumes nothing.
use Rattle.std.specs.Prelude.{◌≡◌, ℕ, zero, suc, ◌+◌, ◌<◌, ◌≤◌, List, [], ◌∷◌, map, length}
use Rattle.std.specs.Prelude.{Some, None, Option, vec_items, nat_lt, ◌==◌, refl}
use Rattle.std.proofs.Common.{sym, ap, subst, ◌∙◌, arith}
use Rattle.std.specs.Global.{Vec}
use Rattle.std.specs.List.{slice_get, AllByRecursion}
use Rattle.std.proofs.lemmas.List.{length-map}
use Rattle.std.proofs.lemmas.Option.{slice_get_past}
use Rattle.std.proofs.lemmas.Bool.{eqb-true, ltb-true, and_parts}
use Rattle.std.proofs.lemmas.Bool.Decides.{nat_tests}
use Rattle.shelf.specs.Meaning.{Version}
use Rattle.shelf.specs.Sound.{Narrow, Sound}
use Rattle.lists.specs.declared.list_shelf.Kept.{Kept}
use Rattle.lists.specs.declared.list_shelf.ListShelf.{ListShelf}
use Rattle.lists.specs.Lists.{version_of, versions_in, free_in, lists_of, IsList}
use Rattle.lists.specs.ListMeaning.{list_meaning}

-- an element that is there
pub there : (xs : List (Vec Kept)) (c : ℕ) → c < length xs → (v : Vec Kept) × (slice_get xs c ≡ Some v)
there [] c h = absurd (omega arith)
there (x ∷ xs) zero h = (x, refl)
there (x ∷ xs) (suc c) h = there xs c (omega arith)

all_narrow : (w : ℕ) (xs : List Kept)
    → ((k : ℕ) (x : Kept) → slice_get xs k ≡ Some x → Narrow w (version_of x))
    → AllByRecursion (Narrow w) (map version_of xs)
all_narrow w [] each = tt
all_narrow w (x ∷ xs) each = (each 0 x refl, all_narrow w xs (λ k y e. each (suc k) y e))

module _ (ls : List (Vec Kept)) (w p : ℕ)
    (each : (c : ℕ) (v : Vec Kept) → slice_get ls c ≡ Some v → IsList w p v) where
  -- what holds of each list holds of each card
  by_list : (P : Option (Vec Kept) → Type 0) → P None → ((v : Vec Kept) → IsList w p v → P (Some v))
      → (c : ℕ) → P (slice_get ls c)
  by_list P none some c = go (slice_get ls c) refl
    where
      go : (o : Option (Vec Kept)) → slice_get ls c ≡ o → P o
      go None e = none
      go (Some v) e = some v (each c v e)

  pub lists_sound : length ls ≤ 256 → w ≤ 256 → p ≤ 65535 → Sound (lists_of ls w p)
  lists_sound few narrow modest =
      record {
        few = few;
        narrow = narrow;
        first = λ c h.
            let (v, e) = there ls c h in
            ap (λ o. slice_get (versions_in o) 0) e ∙ (each c v e).first;
        roomy = λ c h.
            let (v, e) = there ls c h in
            let long = length-map {B = Version} (vec_items v) version_of in
            subst (λ o. length (versions_in o) + free_in p o ≤ 65536) (sym e)
            (omega (arith, (each c v e).short, long));
        stamps =
            by_list (λ o. AllByRecursion (Narrow w) (versions_in o)) tt
            (λ v l. all_narrow w (vec_items v) l.narrow);
        shares_itself = λ c h. grind (arith, nat_tests);
        shares_back = λ a b e. grind (arith, nat_tests);
        shares_on = λ a b c e f. grind (arith, nat_tests);
        shares_listed = λ a b e. ltb-true a (length ls) (and_parts _ _ e).0;
        drawer = λ a b e.
            ap (λ c. free_in p (slice_get ls c))
            (eqb-true a b (and_parts (nat_lt a (length ls)) (a == b) e).1);
        no_line = λ c h. ap versions_in (slice_get_past ls c h);
        no_free = λ c h. ap (free_in p) (slice_get_past ls c h);
      }

pub sound : (s : ListShelf) → Sound (list_meaning s)
sound s = lists_sound (vec_items s.lists) s.width s.places s.each s.few s.narrow s.modest
