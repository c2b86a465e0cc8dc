-- What the lists of a shelf answer, and what a put leaves of them. Assumes nothing.
use Rattle.std.proofs.Common.{◌≡◌, ℕ, zero, suc, pred, ◌+◌, ◌-◌, ◌<◌, ◌≤◌, ◌≢◌, Bool, true, false, cond, ◌&&◌, if◌then◌else◌, eqb, nat_lt, List, [], ◌∷◌, ◌++◌, length, map, slice_index_or, slice_set, length-set, Option, Some, None, Ok, Err, refl, sym, ap, subst, ◌∙◌, inl, inr, arith}
use mathlib.Core.Path.{fun_ext}
use Rattle.std.specs.Global.{Vec}
use Rattle.std.specs.Vec.{vec_items, vec_capacity}
use Rattle.std.specs.List.{slice_get}
use Rattle.std.proofs.lemmas.List.{length-map, map-append, length_push, get_or_past, get_or-set_same, get_or-set_other}
use Rattle.std.proofs.lemmas.Option.{none-some, slice_get-get_or, slice_get_past, slice_get_within}
use Rattle.std.proofs.lemmas.Bool.{cases_lt, cases_eq, cond-true, cond-false, lt-ltb, ltb-true, eq-eqb, ne_eqb, and_from, and_parts, le-leb}
use Rattle.stamps.specs.Counts.{room, counts_at, countable, all_small}
use Rattle.stamps.specs.Entries.{entries}
use Rattle.stamps.specs.declared.stamp.Stamp.{Stamp}
use Rattle.stamps.proofs.Zeros.{small_at}
use Rattle.shelf.specs.Meaning.{Version, Meaning, first_version}
use Rattle.shelf.specs.Sound.{Narrow}
use Rattle.std.specs.Result.{is_ok}
use Rattle.stamps.specs.declared.value.Value.{Value}
use Rattle.shelf.specs.declared.refusal.PutRefusal.TheVariants.{NoCard, BadStamp, NoPlace}
use Rattle.shelf.specs.Putting.{made_version, added, after_put}
use Rattle.shelf.proofs.Lines.{nth_more}
use Rattle.lists.specs.declared.list_shelf.Kept.{Kept}
use Rattle.lists.specs.ListFacts.{there}
use Rattle.lists.specs.Lists.{version_of, versions_in, free_in, lists_of, IsList}

-- an element that was read
pub found : (xs : List (Vec Kept)) (c : ℕ) (v : Vec Kept) → c < length xs → v ≡ slice_index_or xs c v → slice_get xs c ≡ Some v
found xs c v lt e = slice_get-get_or xs c v lt ∙ ap (λ x. Some x) (sym e)

set_here : (xs : List (Vec Kept)) (c : ℕ) (v : Vec Kept) → c < length xs → slice_get (slice_set xs c v) c ≡ Some v
set_here xs c v lt =
    slice_get-get_or (slice_set xs c v) c v (omega (arith, length-set xs c v)) ∙ ap (λ x. Some x) (get_or-set_same xs c v v lt)

set_other : (xs : List (Vec Kept)) (c d : ℕ) (v : Vec Kept) → d ≢ c → slice_get (slice_set xs c v) d ≡ slice_get xs d
set_other xs c d v ne = elim (cases_lt d (length xs)) [
  | inl lt ↦
      slice_get-get_or (slice_set xs c v) d v (omega (arith, length-set xs c v)) ∙ ap (λ x. Some x) (get_or-set_other xs c d v v ne)
      ∙ sym (slice_get-get_or xs d v lt)
  | inr ge ↦ slice_get_past (slice_set xs c v) d (omega (arith, length-set xs c v)) ∙ sym (slice_get_past xs d ge)
]

module _ (ls : List (Vec Kept)) (w p : ℕ) (each : (c : ℕ) (v : Vec Kept) → slice_get ls c ≡ Some v → IsList w p v) (c : ℕ) where
  pub versions_told : (n : ℕ) (v : Vec Kept) → slice_get ls c ≡ Some v → n ≡ length (vec_items v)
      → Some n ≡ cond (nat_lt c (length ls)) (Some (length (versions_in (slice_get ls c)))) None
  versions_told n v e is =
      ap (λ k. Some k) (is ∙ sym (length-map {B = Version} (vec_items v) version_of) ∙ ap (λ o. length (versions_in o)) (sym e))
      ∙ sym (cond-true (nat_lt c (length ls)) _ _ (lt-ltb c (length ls) (slice_get_within ls c v e)))

  -- what was answered of a card is of a card that is there
  told : (f : Option (Vec Kept) → ℕ) (n : ℕ) → Some n ≡ cond (nat_lt c (length ls)) (Some (f (slice_get ls c))) None → (c < length ls) × (n ≡ f (slice_get ls c))
  told f n e = go (nat_lt c (length ls)) refl e
    where
      go : (b : Bool) → nat_lt c (length ls) ≡ b → Some n ≡ cond b (Some (f (slice_get ls c))) None → (c < length ls) × (n ≡ f (slice_get ls c))
      go true t e = (ltb-true c (length ls) t, cc)
      go false t e = absurd (none-some n (sym e))

  pub free_told : (n : ℕ) → Some n ≡ cond (nat_lt c (length ls)) (Some (length (versions_in (slice_get ls c)))) None
      → (n ≤ p + 1) × (Some (p + 1 - n) ≡ cond (nat_lt c (length ls)) (Some (free_in p (slice_get ls c))) None)
  free_told n e =
      let (lt, is) = told (λ o. length (versions_in o)) n e in
      let (v, at) = there ls c lt in
      let long : n ≡ length (vec_items v) = is ∙ ap (λ o. length (versions_in o)) at ∙ length-map {B = Version} (vec_items v) version_of in
      let left : p + 1 - n ≡ suc p - length (vec_items v) = omega (arith, long) in (
        omega (arith, long, (each c v at).short),
        ap (λ k. Some k) (left ∙ ap (free_in p) (sym at)) ∙ sym (cond-true (nat_lt c (length ls)) _ _ (lt-ltb c (length ls) lt)),
      )

  -- a card with a free place has a list with room
  pub room_told : (f : ℕ) (v : Vec Kept) → Some f ≡ cond (nat_lt c (length ls)) (Some (free_in p (slice_get ls c))) None → (f ≡ 0 → ⊥) → v ≡ slice_index_or ls c v
      → (slice_get ls c ≡ Some v) × (length (vec_items v) ≤ p)
  room_told f v e some read =
      let (lt, is) = told (free_in p) f e in
      let at = found ls c v lt read in
      let left : f ≡ suc p - length (vec_items v) = is ∙ ap (free_in p) at in
      let short : length (vec_items v) ≤ p = elim (cases_lt (length (vec_items v)) (suc p)) [
        | inl few ↦ omega arith
        | inr full ↦ let none : f ≡ 0 = omega (arith, left) in absurd (some none)
      ] in
      (at, short)

  -- one version more in the card's list
  module _ (v v' : Vec Kept) (k : Kept) (at : slice_get ls c ≡ Some v) (room : length (vec_items v) ≤ p)
      (more : vec_items v' ≡ vec_items v ++ k ∷ []) (cap : vec_capacity v' ≡ vec_capacity v) (slim : Narrow w (version_of k)) where
    lt : c < length ls
    lt = slice_get_within ls c v at

    mapped : map version_of (vec_items v') ≡ map version_of (vec_items v) ++ version_of k ∷ []
    mapped = ap (map version_of) more ∙ map-append {B = Version} version_of (vec_items v) (k ∷ [])

    long : length (vec_items v') ≡ suc (length (vec_items v))
    long = omega (arith, ap length more, length_push (vec_items v) k)

    is_list : IsList w p v'
    is_list =
        let l = each c v at in
        record {
          first = ap (λ (xs : List Version). slice_get xs 0) mapped ∙ nth_more (map version_of (vec_items v)) (version_of k ∷ []) 0 first_version l.first;
          short = omega (arith, long);
          room = omega (arith, l.room, cap);
          narrow = λ j x e. behind (vec_items v) j x l.narrow (subst (λ (xs : List Kept). slice_get xs j ≡ Some x) more e);
        }
      where
        behind : (xs : List Kept) (j : ℕ) (x : Kept) → ((i : ℕ) (y : Kept) → slice_get xs i ≡ Some y → Narrow w (version_of y))
            → slice_get (xs ++ k ∷ []) j ≡ Some x → Narrow w (version_of x)
        behind [] zero x old e = let same : k ≡ x = cc in subst (λ y. Narrow w (version_of y)) same slim
        behind [] (suc j) x old e = absurd (none-some x e)
        behind (y ∷ xs) zero x old e = old 0 x e
        behind (y ∷ xs) (suc j) x old e = behind xs j x (λ i z. old (suc i) z) e

    pub each_put : (d : ℕ) (x : Vec Kept) → slice_get (slice_set ls c v') d ≡ Some x → IsList w p x
    each_put d x e = elim (cases_eq d c) [
      | inl same ↦
          let here : Some v' ≡ Some x = sym (set_here ls c v' lt) ∙ ap (slice_get (slice_set ls c v')) (sym same) ∙ e in
          let eq : v' ≡ x = cc in
          subst (IsList w p) eq is_list
      | inr other ↦ each d x (sym (set_other ls c d v' other) ∙ e)
    ]

    pub lists_added : lists_of (slice_set ls c v') w p ≡ added (lists_of ls w p) c (version_of k)
    lists_added =
        let line : (d : ℕ) → versions_in (slice_get (slice_set ls c v') d) ≡ cond (eqb d c) (versions_in (slice_get ls d) ++ version_of k ∷ []) (versions_in (slice_get ls d)) =
        λ d. elim (cases_eq d c) [
          | inl same ↦
              ap (λ i. versions_in (slice_get (slice_set ls c v') i)) same ∙ ap versions_in (set_here ls c v' lt) ∙ mapped
              ∙ ap (λ o. versions_in o ++ version_of k ∷ []) (sym at ∙ ap (slice_get ls) (sym same))
              ∙ sym (cond-true (eqb d c) _ _ (eq-eqb d c same))
          | inr other ↦ ap versions_in (set_other ls c d v' other) ∙ sym (cond-false (eqb d c) _ _ (ne_eqb d c other))
        ] in
        let left : (d : ℕ) → free_in p (slice_get (slice_set ls c v') d) ≡ cond (nat_lt c (length ls) && eqb c d) (pred (free_in p (slice_get ls d))) (free_in p (slice_get ls d)) =
        λ d. elim (cases_eq c d) [
          | inl same ↦
              let less : suc p - length (vec_items v') ≡ pred (suc p - length (vec_items v)) = omega (arith, long) in
              ap (λ i. free_in p (slice_get (slice_set ls c v') i)) (sym same) ∙ ap (free_in p) (set_here ls c v' lt) ∙ less
              ∙ ap (λ o. pred (free_in p o)) (sym at ∙ ap (slice_get ls) same)
              ∙ sym (cond-true (nat_lt c (length ls) && eqb c d) _ _ (and_from _ _ (lt-ltb c (length ls) lt) (eq-eqb c d same)))
          | inr other ↦
              ap (free_in p) (set_other ls c d v' (λ e. other (sym e)))
              ∙ sym (cond-false (nat_lt c (length ls) && eqb c d) _ _ (ap (λ b. nat_lt c (length ls) && b) (ne_eqb c d other) ∙ no (nat_lt c (length ls))))
        ] in
        λ z.
        record {
          cards = length-set ls c v' z;
          width = w;
          line = fun_ext line z;
          shares = λ a b. nat_lt a (length-set ls c v' z) && eqb a b;
          free = fun_ext left z;
        }
      where
        no : (b : Bool) → (b && false) ≡ false
        no true = refl
        no false = refl

-- a stamp that was made from counts, no more than the width
module _ (w : ℕ) (xs : List ℕ) (x : Stamp) (short : length xs ≤ w) (made : Some (entries x) ≡ (if countable room xs then Some (counts_at xs) else None)) where
  both : (countable room xs ≡ true) × (entries x ≡ counts_at xs)
  both = go (countable room xs) refl made
    where
      go : (b : Bool) → countable room xs ≡ b → Some (entries x) ≡ (if b then Some (counts_at xs) else None) → (countable room xs ≡ true) × (entries x ≡ counts_at xs)
      go true e h = (e, cc)
      go false e h = absurd (none-some (entries x) (sym h))

  pub same_counts : entries x ≡ counts_at xs
  same_counts = both.1

  small : all_small xs ≡ true
  small = (and_parts _ (all_small xs) both.0).1

  pub fits : countable w xs ≡ true
  fits = and_from _ _ (le-leb (length xs) w short) small

  pub slim_stamp : (i : ℕ) → (entries x i ≤ 65535) × (w ≤ i → entries x i ≡ 0)
  slim_stamp i =
      let e : entries x i ≡ counts_at xs i = ap (λ f. f i) same_counts in
      (omega (arith, e, small_at xs i small), λ past. e ∙ get_or_past xs i 0 (omega arith))

-- a version that may be put is put
module _ (m : Meaning) (c : ℕ) (t : Value) (n : ℕ) (xs : List ℕ) where
  granted : (a b d : Bool) → a ≡ true → b ≡ true → d ≡ true
      → is_ok {T = Unit {0}} (cond a (cond b (cond d (Ok tt) (Err NoPlace)) (Err BadStamp)) (Err NoCard)) ≡ true
  granted a b d x y z = rw (x, y, z) refl

  pub after_told : (x : Stamp) (m' : Meaning) → nat_lt c m.cards ≡ true → countable m.width xs ≡ true → nat_lt 0 (m.free c) ≡ true → entries x ≡ counts_at xs
      → m' ≡ added m c (record { value = t; writer = n; stamp = entries x }) → m' ≡ after_put m c t n xs
  after_told x m' a b d e is =
      is ∙ ap (λ f. added m c (record { value = t; writer = n; stamp = f })) e
      ∙ sym (ap (λ k. cond k (added m c (made_version t n xs)) m) (granted _ _ _ a b d))
