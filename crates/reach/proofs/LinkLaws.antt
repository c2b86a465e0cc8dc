-- What a link says, and what adding an edge does to links.
use Rattle.std.proofs.Common.{◌≡◌, ℕ, suc, ◌<◌, ◌≤◌, true, false, cond, eqb, ◌≢◌, ◌⊎◌, List, [], ◌∷◌, ◌++◌, length, get_or, set, Option, Some, None, sym, refl, ap, ◌∙◌, subst, inl, inr, arith, length-append, get_or-set_other, get_or-set_same}
use Rattle.std.proofs.lemmas.Bool.Decides.{eqb_tells}
use Rattle.std.proofs.lemmas.Bool.{cases_lt}
use Rattle.std.proofs.lemmas.List.{get_or_append_left}
use Rattle.std.proofs.Math.Seq.{get_or-append_seam}
use Rattle.reach.specs.Links.{places, from, to, picks, first, leaves, link, Within, NewestLinked, OlderLinked}
use Rattle.reach.proofs.PickLaws.{picks_same, first_inside}

pub leaves_from : (es : List (ℕ × ℕ)) (n k : ℕ) → leaves es n k ≡ true → from es k ≡ n
leaves_from es n k t = elim (eqb_tells (from es k) n) [ inl p ↦ p.1 | inr p ↦ let z : true ≡ false = sym t ∙ p.0 in absurd (cc) ]

pub from_leaves : (es : List (ℕ × ℕ)) (n k : ℕ) → from es k ≡ n → leaves es n k ≡ true
from_leaves es n k e = elim (eqb_tells (from es k) n) [ inl p ↦ p.0 | inr p ↦ absurd (p.1 e) ]

-- where no edge goes from the node, no link leads on
pub link_none : (es : List (ℕ × ℕ)) (n k : ℕ) → ((i : ℕ) → i < k → from es i ≢ n) → link es n k ≡ None
link_none es n k none = told (link es n k) refl
  where
    told : (r : Option ℕ) → link es n k ≡ r → r ≡ None
    told None e = refl
    told (Some x) e = let h = first_inside (leaves es n) k x e in absurd (none x h.0 (leaves_from es n x h.1))

-- one more edge, from a to b
module _ (es : List (ℕ × ℕ)) (a b : ℕ) where
  abbrev more : List (ℕ × ℕ)
  more = es ++ (a, b) ∷ []

  from_kept : (i : ℕ) → i < length es → from more i ≡ from es i
  from_kept i lt = ap (λ (e : ℕ × ℕ). e.0) (get_or_append_left es ((a, b) ∷ []) (0, 0) i lt)

  to_kept : (i : ℕ) → i < length es → to more i ≡ to es i
  to_kept i lt = ap (λ (e : ℕ × ℕ). e.1) (get_or_append_left es ((a, b) ∷ []) (0, 0) i lt)

  from_new : from more (length es) ≡ a
  from_new = ap (λ (e : ℕ × ℕ). e.0) (get_or-append_seam es (a, b) [] (0, 0))

  to_new : to more (length es) ≡ b
  to_new = ap (λ (e : ℕ × ℕ). e.1) (get_or-append_seam es (a, b) [] (0, 0))

  longer : length more ≡ suc (length es)
  longer = omega (arith, length-append es ((a, b) ∷ []))

  pub within_add : a < places → b < places → Within es → Within more
  within_add la lb h k lt =
      elim (cases_lt k (length es)) [
        | inl small ↦ (omega (arith, (h k small).0, from_kept k small), omega (arith, (h k small).1, to_kept k small))
        | inr large ↦ let s : length es ≡ k = omega (arith, longer) in
            subst (λ (i : ℕ). (from more i < places) × (to more i < places)) s (omega (arith, from_new), omega (arith, to_new))
      ]

  link_kept : (n k : ℕ) → k ≤ length es → link more n k ≡ link es n k
  link_kept n k le = ap first (picks_same (leaves more n) (leaves es n) k (λ i lt. ap (λ f. eqb f n) (from_kept i (omega arith))))

  link_new : (n : ℕ) → link more n (length more) ≡ cond (eqb a n) (Some (length es)) (link es n (length es))
  unfolding picks
  link_new n = ap (λ k. link more n k) longer ∙ step (eqb_tells a n)
    where
      at : leaves more n (length es) ≡ eqb a n
      at = ap (λ f. eqb f n) from_new

      step : ((eqb a n ≡ true) × (a ≡ n)) ⊎ ((eqb a n ≡ false) × (a ≡ n → ⊥)) → link more n (suc (length es)) ≡ cond (eqb a n) (Some (length es)) (link es n (length es))
      step (inl p) = let t : leaves more n (length es) ≡ true = at ∙ p.0 in rw (p.0, t) refl
      step (inr p) = let t : leaves more n (length es) ≡ false = at ∙ p.0 in rw (p.0, t) (link_kept n (length es) (omega arith))

  pub newest_add : (newest : List (Option ℕ)) → places ≤ length newest → a < places → NewestLinked es newest
      → NewestLinked more (set newest a (Some (length es)))
  newest_add newest long la h n lt = elim (eqb_tells a n) [ inl p ↦ same p | inr p ↦ other p ] ∙ sym (link_new n)
    where
      same : (eqb a n ≡ true) × (a ≡ n) → get_or (set newest a (Some (length es))) n None ≡ cond (eqb a n) (Some (length es)) (link es n (length es))
      same (t, e) = let g = get_or-set_same newest a (Some (length es)) None (omega arith) in cc

      other : (eqb a n ≡ false) × (a ≡ n → ⊥) → get_or (set newest a (Some (length es))) n None ≡ cond (eqb a n) (Some (length es)) (link es n (length es))
      other (t, e) = let ne : n ≢ a = (λ p. e (sym p)) in let g = get_or-set_other newest a n (Some (length es)) None ne in let o = h n lt in cc

  pub older_add : (newest older : List (Option ℕ)) → length older ≡ length es → a < places → NewestLinked es newest → OlderLinked es older
      → OlderLinked more (older ++ get_or newest a None ∷ [])
  older_add newest older long la h old k lt = elim (cases_lt k (length es)) [ inl small ↦ kept small | inr large ↦ new (omega (arith, longer)) ]
    where
      kept : k < length es → get_or (older ++ get_or newest a None ∷ []) k None ≡ link more (from more k) k
      kept small =
          let g = get_or_append_left older (get_or newest a None ∷ []) None k (omega arith) in
          let f = from_kept k small in
          let l = link_kept (from es k) k (omega arith) in
          let o = old k small in
          cc

      new : k ≡ length es → get_or (older ++ get_or newest a None ∷ []) k None ≡ link more (from more k) k
      new e =
          let g = get_or-append_seam older (get_or newest a None) [] None in
          let f = from_new in
          let l = link_kept a (length es) (omega arith) in
          let o = h a la in
          cc
