-- The edges of a graph of reads-from steps, and longer paths and dependences.
use Rattle.std.proofs.Common.{◌≡◌, ℕ, zero, suc, ◌<◌, Bool, true, false, cond, ◌⊎◌, List, [], ◌∷◌, ◌++◌, length, get_or, sym, refl, ap, ◌∙◌, subst, inl, inr, arith}
use Rattle.std.proofs.lemmas.Bool.{cases_lt, both_ways}
use Rattle.isolation.specs.History.{History, ReadsFrom, Depends}
use Rattle.reach.specs.Paths.{Edge, Path}
use Rattle.digest.specs.declared.entry.Entry.{Entry}
use Rattle.answers.specs.Questions.{Towards}
use Rattle.digest.specs.Entries.{at, is_step}
use Rattle.answers.specs.Questions.{step_of, steps}
use Rattle.digest.proofs.Snoc.{length_snoc, getD_old, getD_new}

edge_snoc : (xs : List (ℕ × ℕ)) (p : ℕ × ℕ) (a b : ℕ) → Edge (xs ++ p ∷ []) a b → Edge xs a b ⊎ (p ≡ (a, b))
edge_snoc xs p a b e = elim (cases_lt e.place (length xs)) [
  | inl old ↦ let g = getD_old xs p (0, 0) e.place old in
      inl (record { place = e.place; inside = old; leaves = ap (λ (q : ℕ × ℕ). q.0) (sym g) ∙ e.leaves; leads = ap (λ (q : ℕ × ℕ). q.1) (sym g) ∙ e.leads })
  | inr new ↦
      let z : e.place ≡ length xs = omega (arith, e.inside, length_snoc xs p) in
      let g : p ≡ get_or (xs ++ p ∷ []) e.place (0, 0) = sym (ap (λ k. get_or (xs ++ p ∷ []) k (0, 0)) z ∙ getD_new xs p (0, 0)) in
      let first : p.0 ≡ a = ap (λ (q : ℕ × ℕ). q.0) g ∙ e.leaves in
      let second : p.1 ≡ b = ap (λ (q : ℕ × ℕ). q.1) g ∙ e.leads in
      inr (λ z. (first z, second z))
]

edge_old : (xs : List (ℕ × ℕ)) (p : ℕ × ℕ) (a b : ℕ) → Edge xs a b → Edge (xs ++ p ∷ []) a b
edge_old xs p a b e =
    let g = getD_old xs p (0, 0) e.place e.inside in
    record {
      place = e.place;
      inside = omega (arith, e.inside, length_snoc xs p);
      leaves = ap (λ (q : ℕ × ℕ). q.0) g ∙ e.leaves;
      leads = ap (λ (q : ℕ × ℕ). q.1) g ∙ e.leads;
    }

edge_new : (xs : List (ℕ × ℕ)) (p : ℕ × ℕ) → Edge (xs ++ p ∷ []) p.0 p.1
edge_new xs p =
    let g = getD_new xs p (0, 0) in
    record {
      place = length xs;
      inside = omega (arith, length_snoc xs p);
      leaves = ap (λ (q : ℕ × ℕ). q.0) g;
      leads = ap (λ (q : ℕ × ℕ). q.1) g;
    }

-- an edge is the step of an entry
pub edge_step : (d : Towards) (es : List Entry) (n a b : ℕ) → Edge (steps d es n) a b → (i : ℕ) × (i < n) × (is_step (at es i) ≡ true) × (step_of d es (at es i) ≡ (a, b))
unfolding steps
edge_step d es zero a b e = absurd (omega (arith, e.inside))
edge_step d es (suc n) a b e = found (is_step (at es n)) refl e (edge_step d es n a b)
  where
    found : (t : Bool) → is_step (at es n) ≡ t → Edge (cond t (steps d es n ++ step_of d es (at es n) ∷ []) (steps d es n)) a b
        → (Edge (steps d es n) a b → (i : ℕ) × (i < n) × (is_step (at es i) ≡ true) × (step_of d es (at es i) ≡ (a, b)))
        → (i : ℕ) × (i < suc n) × (is_step (at es i) ≡ true) × (step_of d es (at es i) ≡ (a, b))
    found true h e rest = elim (edge_snoc (steps d es n) (step_of d es (at es n)) a b e) [
      | inl old ↦ let (i, lt, y, q) = rest old in (i, omega arith, y, q)
      | inr q ↦ (n, omega arith, h, q)
    ]
    found false h e rest = let (i, lt, y, q) = rest e in (i, omega arith, y, q)

pub step_edge : (d : Towards) (es : List Entry) (n i : ℕ) → i < n → is_step (at es i) ≡ true → Edge (steps d es n) (step_of d es (at es i)).0 (step_of d es (at es i)).1
unfolding steps
step_edge d es zero i lt h = absurd (omega arith)
step_edge d es (suc n) i lt h = found (is_step (at es n)) refl (λ small. step_edge d es n i small h)
  where
    found : (t : Bool) → is_step (at es n) ≡ t → (i < n → Edge (steps d es n) (step_of d es (at es i)).0 (step_of d es (at es i)).1)
        → Edge (cond t (steps d es n ++ step_of d es (at es n) ∷ []) (steps d es n)) (step_of d es (at es i)).0 (step_of d es (at es i)).1
    found true y rest = elim (cases_lt i n) [
      | inl small ↦ edge_old (steps d es n) (step_of d es (at es n)) _ _ (rest small)
      | inr large ↦ let z : n ≡ i = omega arith in
          subst (λ k. Edge (steps d es n ++ step_of d es (at es n) ∷ []) (step_of d es (at es k)).0 (step_of d es (at es k)).1) z (edge_new (steps d es n) (step_of d es (at es n)))
    ]
    found false y rest = elim (cases_lt i n) [
      | inl small ↦ rest small
      | inr large ↦ let z : n ≡ i = omega arith in absurd (both_ways _ (subst (λ k. is_step (at es k) ≡ false) z y) h)
    ]

pub path_snoc : (gs : List (ℕ × ℕ)) (n : ℕ) {a c : ℕ} (b : ℕ) → Path gs n a c → Edge gs c b → b < n → Path gs n a b
path_snoc gs n b (Path.one e lt) d small = Path.more e lt (Path.one d small)
path_snoc gs n b (Path.more e lt p) d small = Path.more e lt (path_snoc gs n b p d small)

pub depends_snoc : (h : History) {t u : ℕ} (v : ℕ) → Depends h t u → ReadsFrom h u v → Depends h t v
depends_snoc h v (Depends.one r) s = Depends.more r (Depends.one s)
depends_snoc h v (Depends.more r d) s = Depends.more r (depends_snoc h v d s)
