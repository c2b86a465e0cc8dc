-- Lists of drafts: what setting one draft changes.
use Rattle.std.proofs.Common.{◌≡◌, ℕ, Bool, true, false, cond, ◌||◌, eqb, ◌⊎◌, List, [], ◌∷◌, sym, refl, ◌∙◌, subst, inl, inr}
use Rattle.stamps.specs.declared.value.Value.{Value}
use Rattle.std.proofs.lemmas.Bool.{cases_Bool, cases_eq, eqb-true, eq-eqb, ne_eqb, cond-true, cond-false, or_left, or_right}
use Rattle.isolation.specs.Account.{Draft, drafted, draft_of, with_draft}

module _ (x : ℕ) (v : Value) where
  -- the first draft is replaced, or the new one stands behind it
  pub by_first : (P : List Draft → Type 0) (d : Draft) (ds : List Draft)
      → (eqb d.card x ≡ true → P (record { card = x; value = v } ∷ ds))
      → (eqb d.card x ≡ false → P (d ∷ with_draft ds x v)) → P (with_draft (d ∷ ds) x v)
  by_first P d ds p q = go (cases_Bool (eqb d.card x))
    where
      go : (eqb d.card x ≡ true) ⊎ (eqb d.card x ≡ false) → P (with_draft (d ∷ ds) x v)
      go (inl e) = subst P (sym (cond-true (eqb d.card x) (record { card = x; value = v } ∷ ds) (d ∷ with_draft ds x v) e)) (p e)
      go (inr e) = subst P (sym (cond-false (eqb d.card x) (record { card = x; value = v } ∷ ds) (d ∷ with_draft ds x v) e)) (q e)

  pub draft_drafted : (ds : List Draft) → drafted (with_draft ds x v) x ≡ true
  draft_drafted [] = or_left (eqb x x) false (eq-eqb x x refl)
  draft_drafted (d ∷ ds) =
      by_first (λ l. drafted l x ≡ true) d ds (λ e. or_left (eqb x x) (drafted ds x) (eq-eqb x x refl))
      (λ e. or_right (eqb d.card x) (drafted (with_draft ds x v) x) (draft_drafted ds))

  pub draft_words : (ds : List Draft) (w : Value) → draft_of (with_draft ds x v) x w ≡ v
  draft_words [] w = cond-true (eqb x x) v w (eq-eqb x x refl)
  draft_words (d ∷ ds) w =
      by_first (λ l. draft_of l x w ≡ v) d ds (λ e. cond-true (eqb x x) v (draft_of ds x w) (eq-eqb x x refl))
      (λ e. cond-false (eqb d.card x) d.value (draft_of (with_draft ds x v) x w) e ∙ draft_words ds w)

  pub draft_others : (ds : List Draft) (y : ℕ) (w : Value) → (x ≡ y → ⊥) → draft_of (with_draft ds x v) y w ≡ draft_of ds y w
  draft_others [] y w ne = cond-false (eqb x y) v w (ne_eqb x y ne)
  draft_others (d ∷ ds) y w ne =
      by_first (λ l. draft_of l y w ≡ draft_of (d ∷ ds) y w) d ds
      (λ e. cond-false (eqb x y) v (draft_of ds y w) (ne_eqb x y ne)
      ∙ sym (cond-false (eqb d.card y) d.value (draft_of ds y w)
      (ne_eqb d.card y (λ q. ne (sym (eqb-true d.card x e) ∙ q)))))
      (λ e. subst (λ z. cond (eqb d.card y) d.value z ≡ draft_of (d ∷ ds) y w) (sym (draft_others ds y w ne)) refl)

  pub drafted_others : (ds : List Draft) (y : ℕ) → (x ≡ y → ⊥) → drafted (with_draft ds x v) y ≡ drafted ds y
  drafted_others [] y ne = subst (λ b. (b || false) ≡ false) (sym (ne_eqb x y ne)) refl
  drafted_others (d ∷ ds) y ne =
      by_first (λ l. drafted l y ≡ drafted (d ∷ ds) y) d ds
      (λ e. both_false (eqb x y) (eqb d.card y) (ne_eqb x y ne) (ne_eqb d.card y (λ q. ne (sym (eqb-true d.card x e) ∙ q))))
      (λ e. subst (λ z. (eqb d.card y || z) ≡ drafted (d ∷ ds) y) (sym (drafted_others ds y ne)) refl)
    where
      both_false : (b c : Bool) → b ≡ false → c ≡ false → (b || drafted ds y) ≡ (c || drafted ds y)
      both_false b c p q = subst (λ z. (z || drafted ds y) ≡ (c || drafted ds y)) (sym p) (subst (λ z. drafted ds y ≡ (z || drafted ds y)) (sym q) refl)

  pub drafted_cases : (ds : List Draft) (y : ℕ) → drafted (with_draft ds x v) y ≡ true → (x ≡ y) ⊎ (drafted ds y ≡ true)
  drafted_cases ds y e = go (cases_eq x y)
    where
      go : (x ≡ y) ⊎ (x ≡ y → ⊥) → (x ≡ y) ⊎ (drafted ds y ≡ true)
      go (inl q) = inl q
      go (inr ne) = inr (sym (drafted_others ds y ne) ∙ e)
