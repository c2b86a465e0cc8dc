-- The lines of a shelf after the puts of a commit.
use Rattle.std.proofs.Common.{◌≡◌, ℕ, zero, suc, ◌<◌, ◌≤◌, Bool, true, false, cond, eqb, ◌⊎◌, List, [], ◌∷◌, ◌++◌, sym, refl, ap, ◌∙◌, subst, inl, inr, arith}
use Rattle.std.proofs.lemmas.Bool.{cases_eq, both_ways, cond-true, cond-false, eq-eqb, ne_eqb, or_cases}
use Rattle.stamps.specs.declared.value.Value.{Value}
use Rattle.shelf.specs.Meaning.{Version, Meaning}
use Rattle.shelf.specs.Putting.{added}
use Rattle.isolation.specs.Account.{Draft, drafted, draft_of}
use Rattle.transactions.specs.State.{Open}
use Rattle.transactions.specs.Committing.{new_version, put_cards}

-- one put leaves every other card's line
put_elsewhere : (p : Meaning) (n x : ℕ) (v : Version) (h : Bool) → (x ≡ n → ⊥) → (cond h (added p n v) p).line x ≡ p.line x
put_elsewhere p n x v true ne = cond-false (eqb x n) (p.line x ++ (v ∷ [])) (p.line x) (ne_eqb x n ne)
put_elsewhere p n x v false ne = refl

put_here : (p : Meaning) (n : ℕ) (v : Version) (h : Bool) → h ≡ true → (cond h (added p n v) p).line n ≡ p.line n ++ (v ∷ [])
put_here p n v true e = cond-true (eqb n n) (p.line n ++ (v ∷ [])) (p.line n) (eq-eqb n n refl)
put_here p n v false e = absurd (both_ways false refl e)

put_not : (p : Meaning) (n x : ℕ) (v : Version) (h : Bool) → h ≡ false → (cond h (added p n v) p).line x ≡ p.line x
put_not p n x v true e = absurd (both_ways true e refl)
put_not p n x v false e = refl

-- all puts: a card not reached, a card put, a card without a draft
line_later : (m : Meaning) (o : Open) (n x : ℕ) → n ≤ x → (put_cards m o n).line x ≡ m.line x
line_later m o zero x le = refl
line_later m o (suc n) x le =
    put_elsewhere (put_cards m o n) n x (new_version m o n) (drafted o.drafts n) (omega arith) ∙ line_later m o n x (omega arith)

pub line_drafted : (m : Meaning) (o : Open) (n x : ℕ) → x < n → drafted o.drafts x ≡ true
    → (put_cards m o n).line x ≡ m.line x ++ (new_version m o x ∷ [])
line_drafted m o zero x lt d = absurd (omega arith)
line_drafted m o (suc n) x lt d = go (cases_eq x n) (λ q. line_drafted m o n x q d)
  where
    go : (x ≡ n) ⊎ (x ≡ n → ⊥) → (x < n → (put_cards m o n).line x ≡ m.line x ++ (new_version m o x ∷ []))
        → (put_cards m o (suc n)).line x ≡ m.line x ++ (new_version m o x ∷ [])
    go (inl e) more =
        subst (λ y. (put_cards m o (suc n)).line y ≡ m.line y ++ (new_version m o y ∷ [])) (sym e)
        (put_here (put_cards m o n) n (new_version m o n) (drafted o.drafts n) (subst (λ y. drafted o.drafts y ≡ true) e d)
        ∙ ap (λ ls. ls ++ (new_version m o n ∷ [])) (line_later m o n n (omega arith)))
    go (inr ne) more =
        put_elsewhere (put_cards m o n) n x (new_version m o n) (drafted o.drafts n) ne ∙ more (omega arith)

pub line_other : (m : Meaning) (o : Open) (n x : ℕ) → drafted o.drafts x ≡ false → (put_cards m o n).line x ≡ m.line x
line_other m o zero x d = refl
line_other m o (suc n) x d = go (cases_eq x n) (line_other m o n x d)
  where
    go : (x ≡ n) ⊎ (x ≡ n → ⊥) → (put_cards m o n).line x ≡ m.line x → (put_cards m o (suc n)).line x ≡ m.line x
    go (inl e) more =
        put_not (put_cards m o n) n x (new_version m o n) (drafted o.drafts n) (subst (λ y. drafted o.drafts y ≡ false) e d) ∙ more
    go (inr ne) more = put_elsewhere (put_cards m o n) n x (new_version m o n) (drafted o.drafts n) ne ∙ more

-- the words of a drafted card
pub draft_sure : (ds : List Draft) (x : ℕ) (u v : Value) → drafted ds x ≡ true → draft_of ds x u ≡ draft_of ds x v
draft_sure [] x u v d = absurd (both_ways false refl d)
draft_sure (e ∷ ds) x u v d = go (eqb e.card x) refl (λ q. draft_sure ds x u v q)
  where
    go : (h : Bool) → eqb e.card x ≡ h → (drafted ds x ≡ true → draft_of ds x u ≡ draft_of ds x v)
        → cond (eqb e.card x) e.value (draft_of ds x u) ≡ cond (eqb e.card x) e.value (draft_of ds x v)
    go true q more = cond-true (eqb e.card x) e.value (draft_of ds x u) q ∙ sym (cond-true (eqb e.card x) e.value (draft_of ds x v) q)
    go false q more =
        cond-false (eqb e.card x) e.value (draft_of ds x u) q ∙ more (rest (or_cases (eqb e.card x) (drafted ds x) d))
        ∙ sym (cond-false (eqb e.card x) e.value (draft_of ds x v) q)
      where
        rest : (eqb e.card x ≡ true) ⊎ (drafted ds x ≡ true) → drafted ds x ≡ true
        rest (inl p) = absurd (both_ways (eqb e.card x) q p)
        rest (inr p) = p
