-- A version's counts, gathered one after the other. Assumes nothing.
use Rattle.std.proofs.Common.{◌≡◌, ℕ, suc, ◌<◌, true, cond, if◌then◌else◌, ltb, List, length, get_or, slice_set, replicate, Option, Some, None, refl, ap, ◌∙◌, sym, inl, inr, arith}
use mathlib.Core.Path.{fun_ext}
use Rattle.std.specs.Option.{option_map}
use Rattle.std.proofs.lemmas.Bool.{cases_lt, cases_eq, and_from, le-leb, lt-ltb, le-ltb, cond-true, cond-false}
use Rattle.std.proofs.lemmas.List.{get_or-set_same, get_or-set_other}
use Rattle.stamps.specs.Counts.{room, counts_at, countable, all_small}
use Rattle.stamps.proofs.Zeros.{zeros, small_from}
use Rattle.shelf.specs.Meaning.{Version, Meaning, version_at}
use Rattle.shelf.specs.Sound.{Sound}
use Rattle.shelf.specs.Questions.{stamp_of}
use Rattle.shelf.proofs.Lines.{version_narrow}

-- of a version that is there the first i counts, with zeros behind; of one that is not, none
abbrev pub Gathered : Option Version → List ℕ → ℕ → Type 0
Gathered None xs i = i ≡ 0
Gathered (Some v) xs i = (k : ℕ) → get_or xs k 0 ≡ cond (ltb k i) (v.stamp k) 0

pub gathered_none : (o : Option Version) → Gathered o (replicate {A = ℕ} 256 0) 0
gathered_none None = refl
gathered_none (Some v) = λ k. zeros 256 k ∙ sym (cond-false (ltb k 0) (v.stamp k) 0 (le-ltb k 0 (omega arith)))

pub gathered_more : (o : Option Version) (xs : List ℕ) (i n : ℕ) → i < length xs → Gathered o xs i → Some n ≡ option_map (λ v. v.stamp i) o
    → Gathered o (slice_set xs i n) (suc i)
gathered_more None xs i n lt h e = let z : ◌≡◌ {A = ℕ} 0 1 = cc in absurd (omega arith)
gathered_more (Some v) xs i n lt h e = λ k. elim (cases_eq k i) [
  | inl same ↦
      let n-is : n ≡ v.stamp i = cc in
      ap (λ j. get_or (slice_set xs i n) j 0) same ∙ get_or-set_same xs i n 0 lt ∙ n-is ∙ ap v.stamp (sym same)
      ∙ sym (cond-true (ltb k (suc i)) (v.stamp k) 0 (lt-ltb k (suc i) (omega arith)))
  | inr other ↦ get_or-set_other xs i k n 0 other ∙ h k ∙ still k other
]
  where
    still : (k : ℕ) → (k ≡ i → ⊥) → cond (ltb k i) (v.stamp k) 0 ≡ cond (ltb k (suc i)) (v.stamp k) 0
    still k ne = elim (cases_lt k i) [
      | inl low ↦ cond-true (ltb k i) (v.stamp k) 0 (lt-ltb k i low) ∙ sym (cond-true (ltb k (suc i)) (v.stamp k) 0 (lt-ltb k (suc i) (omega arith)))
      | inr high ↦ cond-false (ltb k i) (v.stamp k) 0 (le-ltb k i high) ∙ sym (cond-false (ltb k (suc i)) (v.stamp k) 0 (le-ltb k (suc i) (omega arith)))
    ]

-- all counts are those of the version's stamp, which has none past them
pub gathered_all : (m : Meaning) → Sound m → (c k : ℕ) (xs : List ℕ) → length xs ≡ 256 → Gathered (version_at m c k) xs 256
    → (if countable room xs then Some (counts_at xs) else None) ≡ stamp_of m c k
gathered_all m s c k xs long = go (version_at m c k) refl
  where
    go : (o : Option Version) → version_at m c k ≡ o → Gathered o xs 256 → (if countable room xs then Some (counts_at xs) else None) ≡ option_map (λ v. v.stamp) o
    go None e h = let z : ◌≡◌ {A = ℕ} 0 1 = omega arith in absurd (omega arith)
    go (Some v) e h =
        let narrow = version_narrow m s c k v e in
        let same : (i : ℕ) → get_or xs i 0 ≡ v.stamp i = λ i. elim (cases_lt i 256) [
          | inl low ↦ h i ∙ cond-true (ltb i 256) (v.stamp i) 0 (lt-ltb i 256 low)
          | inr high ↦ h i ∙ cond-false (ltb i 256) (v.stamp i) 0 (le-ltb i 256 high) ∙ sym ((narrow i).1 (omega (arith, s.narrow)))
        ] in
        let small : all_small xs ≡ true = small_from xs (λ i (lt : i < length xs). omega (arith, same i, (narrow i).0)) in
        let fits : countable room xs ≡ true = and_from _ _ (le-leb (length xs) 256 (omega arith)) small in
        ap (λ b. if b then Some (counts_at xs) else None) fits ∙ ap (λ f. Some f) (fun_ext same)
