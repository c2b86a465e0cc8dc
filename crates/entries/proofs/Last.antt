-- The last element that passes a test. Assumes nothing.
use Rattle.std.proofs.Common.{◌≡◌, ℕ, zero, suc, ◌+◌, ◌<◌, Bool, true, false, cond, ◌||◌, ◌⊎◌, List, [], ◌∷◌, length, get_or, is_some, Some, None, Option, MatchOption, sym, refl, ap, ◌∙◌, inl, inr, ⊎_elim, arith}
use Rattle.std.specs.List.{list_any, HoldsAt}
use Rattle.std.proofs.lemmas.Bool.{or_from}
use Rattle.transactions.specs.State.{last_from, last_at}

-- past the last element that passes, nothing is found
last_from_rest : {X : Type 0} (p : X → Bool) (xs : List X) (i : ℕ) (found : Option ℕ) →
    ((k : ℕ) → k < length xs → HoldsAt (λ y. p y ≡ false) xs k) → last_from p xs i found ≡ found
last_from_rest p [] i found none = refl
last_from_rest p (x ∷ xs) i found none =
    ap (λ b. last_from p xs (suc i) (cond b (Some i) found)) (none 0 (omega arith) x)
    ∙ last_from_rest p xs (suc i) found (λ k h. none (suc k) (omega arith))

last_from_is : {X : Type 0} (p : X → Bool) (xs : List X) (i j : ℕ) (found : Option ℕ) → j < length xs → HoldsAt (λ y. p y ≡ true) xs j →
    ((k : ℕ) → j < k → k < length xs → HoldsAt (λ y. p y ≡ false) xs k) → last_from p xs i found ≡ Some (i + j)
last_from_is p [] i j found h here after = absurd (omega arith)
last_from_is p (x ∷ xs) i zero found h here after =
    ap (λ b. last_from p xs (suc i) (cond b (Some i) found)) (here x)
    ∙ last_from_rest p xs (suc i) (Some i) (λ k l. after (suc k) (omega arith) (omega arith)) ∙ ap Some (omega arith)
last_from_is p (x ∷ xs) i (suc j) found h here after =
    last_from_is p xs (suc i) j (cond (p x) (Some i) found) (omega arith) here (λ k l m. after (suc k) (omega arith) (omega arith)) ∙ ap Some (omega arith)

-- a place is that of the last element that passes, by what is known of it and of those behind
pub last_at_told : {X : Type 0} (p : X → Bool) (xs : List X) (r : Option ℕ) →
    MatchOption r ((k : ℕ) → k < length xs → HoldsAt (λ y. p y ≡ false) xs k)
    (λ j. (j < length xs) × HoldsAt (λ y. p y ≡ true) xs j × ((k : ℕ) → j < k → k < length xs → HoldsAt (λ y. p y ≡ false) xs k)) → r ≡ last_at p xs
last_at_told p xs None none = sym (last_from_rest p xs 0 None none)
last_at_told p xs (Some j) (h, here, after) = ap Some (omega arith) ∙ sym (last_from_is p xs 0 j None h here after)

last_any_from : {X : Type 0} (p : X → Bool) (xs : List X) (i : ℕ) (found : Option ℕ) → is_some (last_from p xs i found) ≡ (is_some found || list_any p xs)
last_any_from p [] i None = refl
last_any_from p [] i (Some f) = refl
last_any_from p (x ∷ xs) i found = last_any_from p xs (suc i) (cond (p x) (Some i) found) ∙ go (p x) found
  where
    go : (b : Bool) (found : Option ℕ) → (is_some (cond b (Some i) found) || list_any p xs) ≡ (is_some found || (b || list_any p xs))
    go true None = refl
    go true (Some f) = refl
    go false None = refl
    go false (Some f) = refl

pub last_any : {X : Type 0} (p : X → Bool) (xs : List X) → is_some (last_at p xs) ≡ list_any p xs
last_any p xs = last_any_from p xs 0 None

pub last_from_some : {X : Type 0} (p : X → Bool) (xs : List X) (i f : ℕ) → last_from p xs i (Some f) ≡ None → ⊥
last_from_some p [] i f e = let z : ◌≡◌ {A = ℕ} 0 1 = cc in omega arith
last_from_some p (x ∷ xs) i f e = go (p x) (last_from_some p xs (suc i)) e
  where
    go : (b : Bool) → ((g : ℕ) → last_from p xs (suc i) (Some g) ≡ None → ⊥) → last_from p xs (suc i) (cond b (Some i) (Some f)) ≡ None → ⊥
    go true rest e = rest i e
    go false rest e = rest f e

pub last_from_none : {X : Type 0} (p : X → Bool) (xs : List X) (i : ℕ) → last_from p xs i None ≡ None → list_any p xs ≡ false
last_from_none p [] i e = refl
last_from_none p (x ∷ xs) i e = go (p x) refl (last_from_none p xs (suc i)) e
  where
    go : (b : Bool) → p x ≡ b → (last_from p xs (suc i) None ≡ None → list_any p xs ≡ false) → last_from p xs (suc i) (cond b (Some i) None) ≡ None →
        (p x || list_any p xs) ≡ false
    go true t rest e = absurd (last_from_some p xs (suc i) i e)
    go false t rest e = or_from (p x) (list_any p xs) t (rest e)

pub last_at_none : {X : Type 0} (p : X → Bool) (xs : List X) → last_at p xs ≡ None → list_any p xs ≡ false
last_at_none p xs e = last_from_none p xs 0 e

-- element j, counted from i, passes
abbrev pub Passes : {X : Type 0} → (X → Bool) → List X → X → (i j : ℕ) → Type 0
Passes p xs d i j = (k : ℕ) × (j ≡ i + k) × (k < length xs) × (p (get_or xs k d) ≡ true)

-- what was found is one of the elements, and passes
pub last_from_holds : {X : Type 0} (p : X → Bool) (xs : List X) (i j : ℕ) (found : Option ℕ) (d : X) → last_from p xs i found ≡ Some j →
    (found ≡ Some j) ⊎ Passes p xs d i j
last_from_holds p [] i j found d e = inl e
last_from_holds p (x ∷ xs) i j found d e = go (last_from_holds p xs (suc i) j (cond (p x) (Some i) found) d e) (p x) refl
  where
    go : (cond (p x) (Some i) found ≡ Some j) ⊎ Passes p xs d (suc i) j → (b : Bool) → p x ≡ b → (found ≡ Some j) ⊎ Passes p (x ∷ xs) d i j
    go (inl f) true t = let g : Some i ≡ Some j = sym (ap (λ b. cond b (Some i) found) t) ∙ f in let n : i ≡ j = cc in inr (0, omega arith, omega arith, t)
    go (inl f) false t = inl (sym (ap (λ b. cond b (Some i) found) t) ∙ f)
    go (inr (k, n, b, h)) true t = inr (suc k, omega arith, omega arith, h)
    go (inr (k, n, b, h)) false t = inr (suc k, omega arith, omega arith, h)

pub last_at_holds : {X : Type 0} (p : X → Bool) (xs : List X) (j : ℕ) (d : X) → last_at p xs ≡ Some j → (j < length xs) × (p (get_or xs j d) ≡ true)
last_at_holds p xs j d e =
    ⊎_elim
    (λ (f : None ≡ Some j). let z : ◌≡◌ {A = ℕ} 0 1 = cc in absurd (omega arith))
    (λ (w : Passes p xs d 0 j).
    let same : w.0 ≡ j = omega (arith, w.1) in
    (omega (arith, w.2), ap (λ n. p (get_or xs n d)) (sym same) ∙ w.3))
    (last_from_holds p xs 0 j None d e)
