-- Loops over the cards read, and down the versions. Assumes nothing.
use Rattle.std.proofs.Common.{◌≡◌, ℕ, zero, suc, ◌+◌, ◌-◌, ◌<◌, ◌≤◌, Bool, true, false, not, ◌&&◌, ◌||◌, ltb, List, [], ◌∷◌, map, length, get_or, drop, is_some, Some, None, Option, sym, refl, ap, ◌∙◌, arith}
use Rattle.std.specs.Option.{option_map}
use Rattle.std.specs.List.{list_any, range_with_len}
use Rattle.std.proofs.lemmas.List.{at_drop_more, at_drop_all}
use Rattle.std.proofs.lemmas.Bool.{cond-true, cond-false}
use Rattle.shelf.specs.Meaning.{Meaning, version_at, newest}
use Rattle.shelf.specs.Questions.{writer_of}
use Rattle.isolation.specs.Account.{Reading}
use Rattle.transactions.specs.Calls.{any_written}
use Rattle.transactions.specs.Choosing.{lacks, fits_one, fits_all, newest_fit}
use Rattle.entries.specs.declared.entries.ReadEntry.{ReadEntry}
use Rattle.entries.specs.Contents.{reading}

-- one number more, at the end of a range
range_more : (p : ℕ → Bool) (a n : ℕ) → list_any p (range_with_len a (suc n)) ≡ (list_any p (range_with_len a n) || p (a + n))
range_more p a zero = or_none (p a) ∙ ap p (omega arith)
  where
    or_none : (b : Bool) → (b || false) ≡ b
    or_none true = refl
    or_none false = refl
range_more p a (suc n) = ap (λ b. p a || b) (range_more p (a + 1) n) ∙ go (p a) ∙ ap (λ k. (p a || list_any p (range_with_len (a + 1) n)) || p k) (omega arith)
  where
    go : (b : Bool) → (b || (list_any p (range_with_len (a + 1) n) || p (a + 1 + n))) ≡ ((b || list_any p (range_with_len (a + 1) n)) || p (a + 1 + n))
    go true = refl
    go false = refl

pub any_written_is : (m : Meaning) (n : ℕ) → list_any (λ x. ltb 0 (newest m x)) (range_with_len 0 n) ≡ any_written m n
any_written_is m zero = refl
any_written_is m (suc n) =
    range_more (λ x. ltb 0 (newest m x)) 0 n ∙ ap (λ b. b || ltb 0 (newest m (0 + n))) (any_written_is m n) ∙ ap (λ k. any_written m n || ltb 0 (newest m k)) (omega arith)

is_some_mapped : {X Y : Type 0} (f : X → Y) (o : Option X) → is_some (option_map f o) ≡ is_some o
is_some_mapped f None = refl
is_some_mapped f (Some x) = refl

module _ (m : Meaning) (es : List ReadEntry) (i : ℕ) (d : ReadEntry) (h : i < length es) where
  abbrev here : ReadEntry
  here = get_or es i d

  module _ (x n : ℕ) (t : Bool) (test : t ≡ fits_one m x n (reading here)) (inv : fits_all m x n (map reading (drop i es)) ≡ fits_all m x n (map reading es)) where
    pub fits_passed : t ≡ true → fits_all m x n (map reading (drop (i + 1) es)) ≡ fits_all m x n (map reading es)
    fits_passed fits =
        let step = at_drop_more (λ l. fits_all m x n (map reading l)) es i d h in
        sym (step ∙ ap (λ b. b && fits_all m x n (map reading (drop (i + 1) es))) (sym test ∙ fits)) ∙ inv

    pub fits_failed : t ≡ false → fits_all m x n (map reading es) ≡ false
    fits_failed fails =
        let step = at_drop_more (λ l. fits_all m x n (map reading l)) es i d h in
        sym inv ∙ step ∙ ap (λ b. b && fits_all m x n (map reading (drop (i + 1) es))) (sym test ∙ fails)

-- a version that was read has no writer where the shelf lacks it
pub lacks_is : (m : Meaning) (es : List ReadEntry) → list_any (λ e. not (is_some (writer_of m e.card.0 e.version.0))) es ≡ lacks m (map reading es)
lacks_is m [] = refl
lacks_is m (e ∷ es) =
    ap (λ b. not b || list_any (λ y. not (is_some (writer_of m y.card.0 y.version.0))) es) (is_some_mapped (λ v. record { 0 = v.writer }) (version_at m e.card.0 e.version.0))
    ∙ ap (λ b. not (is_some (version_at m e.card.0 e.version.0)) || b) (lacks_is m es)

pub fits_end : (m : Meaning) (x n : ℕ) (es : List ReadEntry) (i : ℕ) → length es ≤ i →
    fits_all m x n (map reading (drop i es)) ≡ fits_all m x n (map reading es) → fits_all m x n (map reading es) ≡ true
fits_end m x n es i h inv = sym inv ∙ at_drop_all (λ l. fits_all m x n (map reading l)) es i h

module _ (m : Meaning) (rs : List Reading) (x : ℕ) where
  pub fit_here : (n : ℕ) → fits_all m x n rs ≡ true → newest_fit m rs x n ≡ Some n
  fit_here zero fits = cond-true (fits_all m x 0 rs) (Some 0) None fits
  fit_here (suc n) fits = cond-true (fits_all m x (suc n) rs) (Some (suc n)) (newest_fit m rs x n) fits

  pub fit_below : (n : ℕ) → (n ≡ 0 → ⊥) → fits_all m x n rs ≡ false → newest_fit m rs x n ≡ newest_fit m rs x (n - 1)
  fit_below zero some fails = absurd (some refl)
  fit_below (suc n) some fails =
      let e : n ≡ suc n - 1 = omega arith in
      cond-false (fits_all m x (suc n) rs) (Some (suc n)) (newest_fit m rs x n) fails ∙ ap (newest_fit m rs x) e

  pub fit_none : (n : ℕ) → n ≡ 0 → fits_all m x n rs ≡ false → newest_fit m rs x n ≡ None
  fit_none zero e fails = cond-false (fits_all m x 0 rs) (Some 0) None fails
  fit_none (suc n) e fails = absurd (omega arith)
