-- Lists of readings: what is in them, and the greatest entry of the versions read.
use Rattle.std.proofs.Common.{◌≡◌, ℕ, ◌<◌, ◌≤◌, max, true, false, eqb, ◌⊎◌, List, [], ◌∷◌, ◌++◌, refl, subst, inl, inr, arith}
use Rattle.std.proofs.lemmas.Bool.{cases_lt, both_ways, eqb-true, eqb-false, eq-eqb, ne_eqb, or_cases, or_parts, or_left, or_right, cond-true, cond-false}
use Rattle.isolation.specs.Account.{Reading, has_read, at_one}
use Rattle.isolation.specs.AccountHistory.{Has}
use Rattle.isolation.specs.Vectors.{Stamps, greatest}

-- a function changed at one place
pub at_one_here : {X : Type 0} (f : ℕ → X) (t : ℕ) (v : X) (u : ℕ) → u ≡ t → at_one f t v u ≡ v
at_one_here f t v u e = cond-true (eqb u t) v (f u) (eq-eqb u t e)

pub at_one_there : {X : Type 0} (f : ℕ → X) (t : ℕ) (v : X) (u : ℕ) → (u ≡ t → ⊥) → at_one f t v u ≡ f u
at_one_there f t v u e = cond-false (eqb u t) v (f u) (ne_eqb u t e)

-- a card that no reading is of has no version among them
pub unread_none : (rs : List Reading) (x k : ℕ) → has_read rs x ≡ false → Has rs x k → ⊥
unread_none [] x k e h = h
unread_none (r ∷ rs) x k e (inl h) = eqb-false r.card x (or_parts (eqb r.card x) (has_read rs x) e).0 h.0
unread_none (r ∷ rs) x k e (inr h) = unread_none rs x k (or_parts (eqb r.card x) (has_read rs x) e).1 h

-- a card that a reading is of has one
pub read_some : (rs : List Reading) (x : ℕ) → has_read rs x ≡ true → (k : ℕ) × Has rs x k
read_some [] x e = absurd (both_ways false refl e)
read_some (r ∷ rs) x e = go (λ h. read_some rs x h) (or_cases (eqb r.card x) (has_read rs x) e)
  where
    go : (has_read rs x ≡ true → (k : ℕ) × Has rs x k)
        → (eqb r.card x ≡ true) ⊎ (has_read rs x ≡ true) → (k : ℕ) × Has (r ∷ rs) x k
    go more (inl h) = (r.version, inl (eqb-true r.card x h, refl))
    go more (inr h) = let (k, q) = more h in (k, inr q)

pub some_read : (rs : List Reading) (x k : ℕ) → Has rs x k → has_read rs x ≡ true
some_read [] x k h = absurd h
some_read (r ∷ rs) x k (inl h) = or_left (eqb r.card x) (has_read rs x) (eq-eqb r.card x h.0)
some_read (r ∷ rs) x k (inr h) = or_right (eqb r.card x) (has_read rs x) (some_read rs x k h)

-- one more reading, at the end
pub has_old : (rs qs : List Reading) (x k : ℕ) → Has rs x k → Has (rs ++ qs) x k
has_old [] qs x k h = absurd h
has_old (r ∷ rs) qs x k (inl h) = inl h
has_old (r ∷ rs) qs x k (inr h) = inr (has_old rs qs x k h)

pub has_new : (rs : List Reading) (r : Reading) → Has (rs ++ (r ∷ [])) r.card r.version
has_new [] r = inl (refl, refl)
has_new (q ∷ rs) r = inr (has_new rs r)

pub has_cases : (rs : List Reading) (r : Reading) (x k : ℕ)
    → Has (rs ++ (r ∷ [])) x k → Has rs x k ⊎ ((r.card ≡ x) × (r.version ≡ k))
has_cases [] r x k (inl h) = inr h
has_cases [] r x k (inr h) = absurd h
has_cases (q ∷ rs) r x k (inl h) = inl (inl h)
has_cases (q ∷ rs) r x k (inr h) = go (has_cases rs r x k h)
  where
    go : Has rs x k ⊎ ((r.card ≡ x) × (r.version ≡ k)) → Has (q ∷ rs) x k ⊎ ((r.card ≡ x) × (r.version ≡ k))
    go (inl i) = inl (inr i)
    go (inr e) = inr e

-- the greatest entry bounds each
pub greatest_bounds : (s : Stamps) (rs : List Reading) (x k y : ℕ) → Has rs x k → s x k y ≤ greatest s rs y
greatest_bounds s [] x k y h = absurd h
greatest_bounds s (r ∷ rs) x k y (inl h) =
    let e : s r.card r.version y ≤ max (s r.card r.version y) (greatest s rs y) = omega arith in
    let P : ℕ → Type 0 = λ z. s z r.version y ≤ max (s r.card r.version y) (greatest s rs y) in
    let Q : ℕ → Type 0 = λ j. s x j y ≤ max (s r.card r.version y) (greatest s rs y) in
    subst Q h.1 (subst P h.0 e)
greatest_bounds s (r ∷ rs) x k y (inr h) = omega (arith, greatest_bounds s rs x k y h)

-- and is one of them, or 0
pub greatest_reached : (s : Stamps) (rs : List Reading) (y j : ℕ) → 0 < j → j ≤ greatest s rs y → (x : ℕ) × (k : ℕ) × Has rs x k × (j ≤ s x k y)
greatest_reached s [] y j p le = absurd (omega arith)
greatest_reached s (r ∷ rs) y j p le = go (λ h. greatest_reached s rs y j p h) (cases_lt (s r.card r.version y) j)
  where
    go : (j ≤ greatest s rs y → (x : ℕ) × (k : ℕ) × Has rs x k × (j ≤ s x k y))
        → (s r.card r.version y < j) ⊎ (j ≤ s r.card r.version y) → (x : ℕ) × (k : ℕ) × Has (r ∷ rs) x k × (j ≤ s x k y)
    go more (inl lt) = let (x, k, h, le) = more (omega arith) in (x, k, inr h, le)
    go more (inr le) = (r.card, r.version, inl (refl, refl), le)

pub greatest_alike : (s s' : Stamps) (rs : List Reading) (y : ℕ)
    → ((x k : ℕ) → Has rs x k → s' x k y ≡ s x k y) → greatest s' rs y ≡ greatest s rs y
greatest_alike s s' [] y e = refl
greatest_alike s s' (r ∷ rs) y e =
    omega (arith, e r.card r.version (inl (refl, refl)), greatest_alike s s' rs y (λ x k h. e x k (inr h)))
