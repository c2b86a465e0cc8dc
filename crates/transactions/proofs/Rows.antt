-- Lines in rising order of a number: one for each number below n that passes a test.
use Rattle.std.proofs.Common.{◌≡◌, ℕ, zero, suc, ◌+◌, ◌<◌, Bool, true, false, cond, ◌⊎◌, List, [], ◌∷◌, ◌++◌, length, Some, None, sym, refl, ap, ◌∙◌, subst, inl, inr, append_assoc, append-nil, arith}
use Rattle.std.specs.List.{slice_get}
use Rattle.std.proofs.lemmas.Bool.{cases_eq, both_ways, or_from}
use Rattle.records.specs.declared.line.Line.{Line}
use Rattle.records.specs.Format.{fault_of}
use Rattle.rules.specs.Rules.{some, in_place}
use Rattle.transactions.proofs.Obeying.{Obeys}
use Rattle.transactions.proofs.Places.{none_some, some_same, nth_cases, nth_stays, nth_behind}

abbrev pub rows : (ℕ → Bool) → (ℕ → Line) → ℕ → List Line
rows h f zero = []
rows h f (suc n) = rows h f n ++ cond (h n) (f n ∷ []) []

-- the last of them
last_row : (b : Bool) (v l : Line) (j : ℕ) → slice_get (cond b (v ∷ []) []) j ≡ Some l → (b ≡ true) × (j ≡ 0) × (v ≡ l)
last_row true v l zero e = (refl, refl, some_same e)
last_row true v l (suc j) e = absurd (none_some e)
last_row false v l j e = absurd (none_some e)

pub row_is : (h : ℕ → Bool) (f : ℕ → Line) (n i : ℕ) (l : Line) → slice_get (rows h f n) i ≡ Some l → (x : ℕ) × (x < n) × (h x ≡ true) × (f x ≡ l)
row_is h f zero i l e = absurd (none_some e)
row_is h f (suc n) i l e = go (nth_cases (rows h f n) (cond (h n) (f n ∷ []) []) i l e) (λ q. row_is h f n i l q)
  where
    go : (slice_get (rows h f n) i ≡ Some l) ⊎ ((j : ℕ) × (i ≡ length (rows h f n) + j) × (slice_get (cond (h n) (f n ∷ []) []) j ≡ Some l))
        → (slice_get (rows h f n) i ≡ Some l → (x : ℕ) × (x < n) × (h x ≡ true) × (f x ≡ l))
        → (x : ℕ) × (x < suc n) × (h x ≡ true) × (f x ≡ l)
    go (inl q) more = let (x, lt, p, r) = more q in (x, omega arith, p, r)
    go (inr (j, q, r)) more = let (p, z, y) = last_row (h n) (f n) l j r in (n, omega arith, p, y)

pub row_has : (h : ℕ → Bool) (f : ℕ → Line) (n x : ℕ) → x < n → h x ≡ true → (i : ℕ) × (slice_get (rows h f n) i ≡ Some (f x))
row_has h f zero x lt e = absurd (omega arith)
row_has h f (suc n) x lt e = go (cases_eq x n) (λ q. row_has h f n x q e)
  where
    here : x ≡ n → (b : Bool) → h n ≡ b → slice_get (cond b (f n ∷ []) []) 0 ≡ Some (f x)
    here q true p = ap (λ y. Some (f y)) (sym q)
    here q false p = absurd (both_ways (h n) p (subst (λ y. h y ≡ true) q e))

    go : (x ≡ n) ⊎ (x ≡ n → ⊥) → (x < n → (i : ℕ) × (slice_get (rows h f n) i ≡ Some (f x))) → (i : ℕ) × (slice_get (rows h f (suc n)) i ≡ Some (f x))
    go (inl q) more = (length (rows h f n) + 0, nth_behind (rows h f n) (cond (h n) (f n ∷ []) []) 0 ∙ here q (h n) refl)
    go (inr ne) more =
        let (i, q) = more (omega arith) in
        (i, nth_stays (rows h f n) (cond (h n) (f n ∷ []) []) i (f x) q)

-- each number has one place
pub row_once : (h : ℕ → Bool) (f : ℕ → Line) → ((x : ℕ) → (f x).card.0 ≡ x) → (n i j : ℕ) (l k : Line) → slice_get (rows h f n) i ≡ Some l
    → slice_get (rows h f n) j ≡ Some k → l.card.0 ≡ k.card.0 → i ≡ j
row_once h f c zero i j l k p q e = absurd (none_some p)
row_once h f c (suc n) i j l k p q e =
    go (nth_cases (rows h f n) (cond (h n) (f n ∷ []) []) i l p) (nth_cases (rows h f n) (cond (h n) (f n ∷ []) []) j k q)
    (λ u v. row_once h f c n i j l k u v e)
  where
    below : (a : ℕ) (s : Line) → slice_get (rows h f n) a ≡ Some s → s.card.0 < n
    below a s u =
        let (x, lt, v, w) = row_is h f n a s u in
        subst (λ (r : Line). r.card.0 < n) w (omega (arith, c x))

    last : (a b : ℕ) (s : Line) → slice_get (cond (h n) (f n ∷ []) []) b ≡ Some s → (b ≡ 0) × (s.card.0 ≡ n)
    last a b s u =
        let (v, w, r) = last_row (h n) (f n) s b u in
        (w, ap (λ (z : Line). z.card.0) (sym r) ∙ c n)

    go : (slice_get (rows h f n) i ≡ Some l) ⊎ ((b : ℕ) × (i ≡ length (rows h f n) + b) × (slice_get (cond (h n) (f n ∷ []) []) b ≡ Some l))
        → (slice_get (rows h f n) j ≡ Some k) ⊎ ((b : ℕ) × (j ≡ length (rows h f n) + b) × (slice_get (cond (h n) (f n ∷ []) []) b ≡ Some k))
        → (slice_get (rows h f n) i ≡ Some l → slice_get (rows h f n) j ≡ Some k → i ≡ j) → i ≡ j
    go (inl u) (inl v) more = more u v
    go (inl u) (inr (b, v, w)) more = absurd (omega (arith, below i l u, (last j b k w).1))
    go (inr (b, u, w)) (inl v) more = absurd (omega (arith, below j k v, (last i b l w).1))
    go (inr (b, u, w)) (inr (d, v, r)) more = omega (arith, (last i b l w).0, (last j d k r).0)

-- a test over lines
pub some_none : (p : Line → Bool) (ls : List Line) → ((i : ℕ) (l : Line) → slice_get ls i ≡ Some l → p l ≡ false) → some p ls ≡ false
some_none p [] e = refl
some_none p (l ∷ ls) e = or_from (p l) (some p ls) (e zero l refl) (some_none p ls (λ i k q. e (suc i) k q))

-- the rules, over lists joined and over rows
pub obeys_append : (before xs ys : List Line) → Obeys before xs → Obeys (before ++ xs) ys → Obeys before (xs ++ ys)
obeys_append before [] ys p q = subst (λ z. Obeys z ys) (append-nil before) q
obeys_append before (x ∷ xs) ys (f, p, r) q =
    (f, p, obeys_append (before ++ (x ∷ [])) xs ys r (subst (λ z. Obeys z ys) (sym (append_assoc before (x ∷ []) xs)) q))

pub obeys_rows : (before : List Line) (h : ℕ → Bool) (f : ℕ → Line) (n : ℕ)
    → ((x : ℕ) → x < n → h x ≡ true → (fault_of (f x) ≡ None) × (in_place (before ++ rows h f x) (f x) ≡ true)) → Obeys before (rows h f n)
obeys_rows before h f zero g = tt
obeys_rows before h f (suc n) g =
    obeys_append before (rows h f n) (cond (h n) (f n ∷ []) []) (obeys_rows before h f n (λ x lt e. g x (omega arith) e)) (last (h n) refl)
  where
    last : (b : Bool) → h n ≡ b → Obeys (before ++ rows h f n) (cond b (f n ∷ []) [])
    last true e = let (p, q) = g n (omega arith) e in (p, q, tt)
    last false e = tt
