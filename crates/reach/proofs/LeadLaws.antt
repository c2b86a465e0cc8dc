-- The test for a path finds each path, and the marks of a search are its answers.
use Rattle.std.proofs.Common.{◌≡◌, ℕ, zero, suc, ◌<◌, ◌≤◌, Bool, true, false, cond, eqb, ◌||◌, ◌&&◌, List, [], ◌∷◌, length, get_or, sym, refl, ◌∙◌, subst, inl, inr, arith}
use Rattle.std.proofs.lemmas.Bool.{cases_lt, cases_Bool, or_cases, and_parts, eqb-true}
use Rattle.std.proofs.lemmas.Bool.Decides.{nat_tests}
use Rattle.std.proofs.lemmas.List.FromFn.{fill_by_all}
use Rattle.reach.specs.Links.{from, to}
use Rattle.reach.specs.Paths.{Edge, Path, Reached, has_edge, leads, marks_from}
use Rattle.reach.specs.Searches.{Bits}

or_left : (x y : Bool) → x ≡ true → (x || y) ≡ true
or_left x y e = rw e refl

or_right : (x y : Bool) → y ≡ true → (x || y) ≡ true
or_right true y e = refl
or_right false y e = e

both : (x y : Bool) → x ≡ true → y ≡ true → (x && y) ≡ true
both x y e f = rw e f

edge_later : (e : ℕ × ℕ) (es : List (ℕ × ℕ)) (a b : ℕ) → Edge es a b → Edge (e ∷ es) a b
edge_later e es a b d = record { place = suc d.place; inside = omega (arith, d.inside); leaves = d.leaves; leads = d.leads }

edge_found : (es : List (ℕ × ℕ)) (a b : ℕ) → has_edge es a b ≡ true → Edge es a b
edge_found [] a b h = let z : ◌≡◌ {A = ℕ} 0 1 = cc in absurd (omega arith)
edge_found (e ∷ es) a b h = elim (or_cases (eqb e.0 a && eqb e.1 b) (has_edge es a b) h) [
  | inl here ↦
      let (l, r) = and_parts (eqb e.0 a) (eqb e.1 b) here in
      record { place = 0; inside = omega arith; leaves = eqb-true e.0 a l; leads = eqb-true e.1 b r }
  | inr rest ↦ edge_later e es a b (edge_found es a b rest)
]

same_true : (a b : ℕ) → a ≡ b → eqb a b ≡ true
same_true a b e = grind (arith, nat_tests)

edge_at : (es : List (ℕ × ℕ)) (k a b : ℕ) → k < length es → from es k ≡ a → to es k ≡ b → has_edge es a b ≡ true
edge_at [] k a b lt l r = absurd (omega arith)
edge_at (e ∷ es) zero a b lt l r = or_left _ (has_edge es a b) (both (eqb e.0 a) (eqb e.1 b) (same_true e.0 a l) (same_true e.1 b r))
edge_at (e ∷ es) (suc k) a b lt l r = or_right (eqb e.0 a && eqb e.1 b) (has_edge es a b) (edge_at es k a b (omega arith) l r)

path_append : (es : List (ℕ × ℕ)) (n : ℕ) {a b c : ℕ} → Path es n a b → Path es n b c → Path es n a c
path_append es n (Path.one e lt) q = Path.more e lt q
path_append es n (Path.more e lt p) q = Path.more e lt (path_append es n p q)

module _ (es : List (ℕ × ℕ)) where
  -- what the test finds is a path
  path_found : (n k a b : ℕ) → k ≤ n → b < n → leads es k a b ≡ true → Path es n a b
  unfolding leads
  path_found n zero a b le lt h = Path.one (edge_found es a b h) lt
  path_found n (suc k) a b le lt h = elim (or_cases (leads es k a b) (leads es k a k && leads es k k b) h) [
    | inl past ↦ path_found n k a b (omega arith) lt past
    | inr through ↦
        let (l, r) = and_parts (leads es k a k) (leads es k k b) through in
        path_append es n (path_found n k a k (omega arith) (omega arith) l) (path_found n k k b (omega arith) lt r)
  ]

  edge_leads : (k a b : ℕ) → Edge es a b → leads es k a b ≡ true
  unfolding leads
  edge_leads zero a b d = edge_at es d.place a b d.inside d.leaves d.leads
  edge_leads (suc k) a b d = or_left (leads es k a b) _ (edge_leads k a b d)

  -- what is reached from k without passing it
  from_itself : (k b : ℕ) → leads es (suc k) k b ≡ true → leads es k k b ≡ true
  unfolding leads
  from_itself k b h = elim (or_cases (leads es k k b) (leads es k k k && leads es k k b) h) [
    | inl past ↦ past
    | inr through ↦ (and_parts (leads es k k k) (leads es k k b) through).1
  ]

  -- an edge before what is reached
  edge_before : (k a c b : ℕ) → Edge es a c → c < k → leads es k c b ≡ true → leads es k a b ≡ true
  unfolding leads
  edge_before zero a c b d lt h = absurd (omega arith)
  edge_before (suc k) a c b d lt h = elim (cases_lt c k) [
    | inl small ↦ elim (or_cases (leads es k c b) (leads es k c k && leads es k k b) h) [
      | inl past ↦ or_left (leads es k a b) _ (edge_before k a c b d small past)
      | inr through ↦
          let (l, r) = and_parts (leads es k c k) (leads es k k b) through in
          or_right (leads es k a b) _ (both (leads es k a k) (leads es k k b) (edge_before k a c k d small l) r)
    ]
    | inr ge ↦
        let is : c ≡ k = omega arith in
        or_right (leads es k a b) _ (both (leads es k a k) (leads es k k b) (edge_leads k a k (subst (Edge es a) is d))
        (from_itself k b (subst (λ x. leads es (suc k) x b ≡ true) is h)))
  ]

  path_leads : (n : ℕ) {a b : ℕ} → Path es n a b → leads es n a b ≡ true
  path_leads n (Path.one e lt) = edge_leads n _ _ e
  path_leads n (Path.more e lt p) = edge_before n _ _ _ e lt (path_leads n p)

  pub reached_marks : (a : ℕ) (ms : List ℕ) → Reached es a ms → Bits ms → ms ≡ marks_from es a (length ms)
  reached_marks a ms r s = fill_by_all (λ b. cond (leads es n a b) 1 0) ms n 0 refl each
    where
      n : ℕ
      n = length ms

      each : (b : ℕ) → b < length ms → get_or ms b 0 ≡ cond (leads es (length ms) a b) 1 0
      each b lt = elim (cases_Bool (leads es (length ms) a b)) [
        | inl e ↦ rw e (omega (arith, r.complete b (path_found (length ms) (length ms) a b (omega arith) lt e), s b))
        | inr e ↦ rw e (elim (cases_lt 0 (get_or ms b 0)) [
          | inl m ↦ let t : true ≡ false = sym (path_leads (length ms) (r.sound b m)) ∙ e in let z : ◌≡◌ {A = ℕ} 0 1 = cc in absurd (omega arith)
          | inr ge ↦ omega arith
        ])
      ]
