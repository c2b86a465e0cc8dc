-- Lists with version 0 alone. Assumes nothing.
use Rattle.std.proofs.Common.{◌≡◌, ℕ, zero, suc, ◌<◌, ◌≤◌, Bool, true, false, cond, ◌&&◌, eqb, nat_lt, List, [], ◌∷◌, ◌++◌, length, Option, Some, None, refl, sym, ap, subst, ◌∙◌, inl, inr, arith}
use mathlib.Core.Path.{fun_ext}
use Rattle.std.specs.Global.{Vec}
use Rattle.std.specs.Vec.{vec_items}
use Rattle.std.specs.List.{slice_get}
use Rattle.std.specs.Option.{option_map}
use Rattle.std.proofs.lemmas.List.{length-map}
use Rattle.std.proofs.lemmas.Option.{none-some, same_Some, slice_get-map, slice_get_past}
use Rattle.std.proofs.lemmas.Bool.{cases_lt, lt-ltb, le-ltb}
use Rattle.shelf.specs.Meaning.{Version, first_version}
use Rattle.shelf.specs.Sound.{Narrow}
use Rattle.lists.specs.declared.list_shelf.Kept.{Kept}
use Rattle.lists.specs.ListFacts.{there}
use Rattle.lists.specs.Lists.{version_of, versions_in, free_in, lists_of, new_lists, IsList, IsNew}

pub new_is_list : (w p : ℕ) (v : Vec Kept) → IsNew p v → IsList w p v
new_is_list w p v new = record {
  first = ap (λ (xs : List Version). slice_get xs 0) new.only;
  short = omega (arith, long);
  room = new.room;
  narrow = λ k x e. only k x (sym (slice_get-map version_of (vec_items v) k ∙ ap (option_map version_of) e) ∙ ap (λ (xs : List Version). slice_get xs k) new.only);
}
  where
    long : length (vec_items v) ≡ 1
    long = sym (length-map {B = Version} (vec_items v) version_of) ∙ ap length new.only

    only : (k : ℕ) (x : Kept) → Some (version_of x) ≡ slice_get (first_version ∷ []) k → Narrow w (version_of x)
    only zero x e =
        let same : first_version ≡ version_of x = sym (same_Some _ _ e) in
        subst (Narrow w) same (λ i. (omega arith, λ past. refl))
    only (suc k) x e = absurd (none-some (version_of x) (sym e))

-- the lists that were made first are new
abbrev pub AllNew : ℕ → List (Vec Kept) → Type 0
AllNew p ls = (c : ℕ) (v : Vec Kept) → slice_get ls c ≡ Some v → IsNew p v

pub none_new : (p : ℕ) (ls : List (Vec Kept)) → ls ≡ [] → AllNew p ls
none_new p ls e = λ c v at. absurd (none-some v (sym (ap (λ (xs : List (Vec Kept)). slice_get xs c) e) ∙ at))

pub one_more_new : (p : ℕ) (ls ls' : List (Vec Kept)) (x : Vec Kept) → ls' ≡ ls ++ x ∷ [] → AllNew p ls → IsNew p x → AllNew p ls'
one_more_new p ls ls' x e all new = λ c v at. behind ls c v all (subst (λ (xs : List (Vec Kept)). slice_get xs c ≡ Some v) e at)
  where
    behind : (xs : List (Vec Kept)) (c : ℕ) (v : Vec Kept) → AllNew p xs → slice_get (xs ++ x ∷ []) c ≡ Some v → IsNew p v
    behind [] zero v old at = let same : x ≡ v = same_Some x v at in subst (IsNew p) same new
    behind [] (suc c) v old at = absurd (none-some v at)
    behind (y ∷ xs) zero v old at = old 0 v at
    behind (y ∷ xs) (suc c) v old at = behind xs c v (λ d u. old (suc d) u) at

pub new_meaning : (ls : List (Vec Kept)) (n w p : ℕ) → length ls ≡ n → AllNew p ls → lists_of ls w p ≡ new_lists n w p
new_meaning ls n w p long all =
    let line : (c : ℕ) → versions_in (slice_get ls c) ≡ cond (nat_lt c n) (first_version ∷ []) [] =
    λ c. by_card (λ o x. versions_in o ≡ cond x (first_version ∷ []) []) refl (λ v new. new.only) c in
    let left : (c : ℕ) → free_in p (slice_get ls c) ≡ cond (nat_lt c n) p 0 =
    λ c. by_card (λ o x. free_in p o ≡ cond x p 0) refl (λ v new. omega (arith, length-map {B = Version} (vec_items v) version_of, ap length new.only)) c in
    λ z.
    record {
      cards = long z;
      width = w;
      line = fun_ext line z;
      shares = λ a b. nat_lt a (long z) && eqb a b;
      free = fun_ext left z;
    }
  where
    by_card : (P : Option (Vec Kept) → Bool → Type 0) → P None false → ((v : Vec Kept) → IsNew p v → P (Some v) true) → (c : ℕ) → P (slice_get ls c) (nat_lt c n)
    by_card P out new c = elim (cases_lt c (length ls)) [
      | inl lt ↦
          let (v, e) = there ls c lt in
          let within : c < n = omega (arith, long) in
          subst (λ o. P o (nat_lt c n)) (sym e) (subst (P (Some v)) (sym (lt-ltb c n within)) (new v (all c v e)))
      | inr ge ↦
          let past : n ≤ c = omega (arith, long) in
          subst (λ o. P o (nat_lt c n)) (sym (slice_get_past ls c ge)) (subst (P None) (sym (le-ltb c n past)) out)
    ]
