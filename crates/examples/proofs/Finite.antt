-- Finite lists, and properties of their elements that a computation settles.
--     In y xs                     y is an element of xs
--     tested, eq?, le?, lt?       what a test of numbers settles
--     both?, either?, not?, if?   what the parts settle of the whole
--     all?, any?, in?             properties of every element, of some element; being an element
--     collect P d f xs            f of those elements of xs that have the property P
--     pairs xs ys                 each element of xs with each of ys
use Rattle.std.proofs.Common.{◌≡◌, ℕ, ◌<◌, ◌≤◌, Bool, true, false, eqb, ltb, leb, ◌⊎◌, List, [], ◌∷◌, ◌++◌, Decides, sym, refl, subst, inl, inr}
use Rattle.std.proofs.lemmas.Bool.{false≢true, leb-true, le-leb}
use Rattle.std.proofs.lemmas.Bool.Decides.{Decides-eqb, Decides-ltb}

abbrev pub In : {A : Type 0} → A → List A → Type 0
In y [] = ⊥
In y (x ∷ xs) = (x ≡ y) ⊎ In y xs

abbrev pub tested : {P : Type 0} (b : Bool) → Decides b P → Dec P
tested true d = yes (d.0 refl)
tested false d = no (λ p. false≢true (d.1 p))

abbrev pub eq? : (a b : ℕ) → Dec (a ≡ b)
eq? a b = tested (eqb a b) (Decides-eqb a b)

abbrev pub lt? : (a b : ℕ) → Dec (a < b)
lt? a b = tested (ltb a b) (Decides-ltb a b)

abbrev pub le? : (a b : ℕ) → Dec (a ≤ b)
le? a b = tested (leb a b) (leb-true a b, le-leb a b)

abbrev pub like? : {P Q : Type 0} → (P → Q) → (Q → P) → Dec P → Dec Q
like? f g (yes p) = yes (f p)
like? f g (no n) = no (λ q. n (g q))

abbrev pub both? : {P Q : Type 0} → Dec P → Dec Q → Dec (P × Q)
both? (no n) e = no (λ h. n h.0)
both? (yes p) (no n) = no (λ h. n h.1)
both? (yes p) (yes q) = yes (p, q)

abbrev pub either? : {P Q : Type 0} → Dec P → Dec Q → Dec (P ⊎ Q)
either? (yes p) e = yes (inl p)
either? (no n) (yes q) = yes (inr q)
either? {P} {Q} (no n) (no m) = no neither
  where
    neither : P ⊎ Q → ⊥
    neither (inl p) = n p
    neither (inr q) = m q

abbrev pub not? : {P : Type 0} → Dec P → Dec (P → ⊥)
not? (yes p) = no (λ f. f p)
not? (no n) = yes n

abbrev pub if? : {P Q : Type 0} → Dec P → Dec Q → Dec (P → Q)
if? (no n) e = yes (λ p. absurd (n p))
if? (yes p) (yes q) = yes (λ _. q)
if? (yes p) (no n) = no (λ f. n (f p))

abbrev all_more : {A : Type 0} (P : A → Type 0) (x : A) (xs : List A)
    → Dec (P x) → Dec ((y : A) → In y xs → P y) → Dec ((y : A) → In y (x ∷ xs) → P y)
all_more P x xs (no n) e = no (λ g. n (g x (inl refl)))
all_more P x xs (yes p) (no n) = no (λ g. n (λ y h. g y (inr h)))
all_more {A} P x xs (yes p) (yes q) = yes all
  where
    all : (y : A) → In y (x ∷ xs) → P y
    all y (inl e) = subst P e p
    all y (inr h) = q y h

abbrev pub all? : {A : Type 0} (P : A → Type 0) (xs : List A) → ((x : A) → Dec (P x)) → Dec ((y : A) → In y xs → P y)
all? P [] d = yes (λ y h. absurd h)
all? P (x ∷ xs) d = all_more P x xs (d x) (all? P xs d)

-- some element, with the property
abbrev pub SomeIn : {A : Type 0} (P : A → Type 0) (xs : List A) → Type 0
SomeIn {A} P xs = (y : A) × In y xs × P y

abbrev any_more : {A : Type 0} (P : A → Type 0) (x : A) (xs : List A)
    → Dec (P x) → Dec (SomeIn P xs) → Dec (SomeIn P (x ∷ xs))
any_more P x xs (yes p) e = yes (x, inl refl, p)
any_more P x xs (no n) (yes (y, h, p)) = yes (y, inr h, p)
any_more {A} P x xs (no n) (no m) = no (λ s. none s.0 s.1 s.2)
  where
    none : (y : A) → In y (x ∷ xs) → P y → ⊥
    none y (inl e) p = n (subst P (sym e) p)
    none y (inr h) p = m (y, h, p)

abbrev pub any? : {A : Type 0} (P : A → Type 0) (xs : List A) → ((x : A) → Dec (P x)) → Dec (SomeIn P xs)
any? P [] d = no (λ s. s.1)
any? P (x ∷ xs) d = any_more P x xs (d x) (any? P xs d)

abbrev pub in? : {A : Type 0} → ((x y : A) → Dec (x ≡ y)) → (y : A) (xs : List A) → Dec (In y xs)
in? eq y [] = no (λ h. h)
in? eq y (x ∷ xs) = either? (eq x y) (in? eq y xs)

pub in_left : {A : Type 0} (xs ys : List A) (y : A) → In y xs → In y (xs ++ ys)
in_left [] ys y h = absurd h
in_left (x ∷ xs) ys y (inl e) = inl e
in_left (x ∷ xs) ys y (inr h) = inr (in_left xs ys y h)

pub in_right : {A : Type 0} (xs ys : List A) (y : A) → In y ys → In y (xs ++ ys)
in_right [] ys y h = h
in_right (x ∷ xs) ys y h = inr (in_right xs ys y h)

pub in_either : {A : Type 0} (xs ys : List A) (y : A) → In y (xs ++ ys) → In y xs ⊎ In y ys
in_either [] ys y h = inr h
in_either (x ∷ xs) ys y (inl e) = inl (inl e)
in_either (x ∷ xs) ys y (inr h) = go (in_either xs ys y h)
  where
    go : In y xs ⊎ In y ys → In y (x ∷ xs) ⊎ In y ys
    go (inl k) = inl (inr k)
    go (inr k) = inr k

abbrev pub picked : {A P : Type 0} → Dec P → A → List A
picked (yes p) x = x ∷ []
picked (no n) x = []

picked_in : {A P : Type 0} (d : Dec P) (x : A) → P → In x (picked d x)
picked_in (yes p) x h = inl refl
picked_in (no n) x h = absurd (n h)

in_picked : {A P : Type 0} (d : Dec P) (x y : A) → In y (picked d x) → P × (x ≡ y)
in_picked (yes p) x y (inl e) = (p, e)
in_picked (yes p) x y (inr h) = absurd h
in_picked (no n) x y h = absurd h

module _ {A B : Type 0} (P : A → Type 0) (d : (x : A) → Dec (P x)) (f : A → B) where
  abbrev pub collect : List A → List B
  collect [] = []
  collect (x ∷ xs) = picked (d x) (f x) ++ collect xs

  pub collect_in : (xs : List A) (x : A) → In x xs → P x → In (f x) (collect xs)
  collect_in [] x h p = absurd h
  collect_in (z ∷ xs) x (inl e) p =
      in_left (picked (d z) (f z)) (collect xs) (f x)
      (subst (λ y. In (f y) (picked (d z) (f z))) e (picked_in (d z) (f z) (subst P (sym e) p)))
  collect_in (z ∷ xs) x (inr h) p = in_right (picked (d z) (f z)) (collect xs) (f x) (collect_in xs x h p)

  pub in_collect : (xs : List A) (y : B) → In y (collect xs) → (x : A) × In x xs × P x × (f x ≡ y)
  in_collect [] y h = absurd h
  in_collect (z ∷ xs) y h = go (λ k. in_collect xs y k) (in_either (picked (d z) (f z)) (collect xs) y h)
    where
      go : (In y (collect xs) → (x : A) × In x xs × P x × (f x ≡ y)) → In y (picked (d z) (f z)) ⊎ In y (collect xs)
          → (x : A) × In x (z ∷ xs) × P x × (f x ≡ y)
      go more (inl k) = let (p, e) = in_picked (d z) (f z) y k in (z, inl refl, p, e)
      go more (inr k) = let (x, i, p, e) = more k in (x, inr i, p, e)

module _ {A B : Type 0} where
  abbrev pub beside : A → List B → List (A × B)
  beside x [] = []
  beside x (y ∷ ys) = (x, y) ∷ beside x ys

  abbrev pub pairs : List A → List B → List (A × B)
  pairs [] ys = []
  pairs (x ∷ xs) ys = beside x ys ++ pairs xs ys

  beside_in : (x : A) (ys : List B) (y : B) → In y ys → In (x, y) (beside x ys)
  beside_in x [] y h = absurd h
  beside_in x (z ∷ ys) y (inl e) = inl (subst (λ w. ◌≡◌ {A = A × B} (x, z) (x, w)) e refl)
  beside_in x (z ∷ ys) y (inr h) = inr (beside_in x ys y h)

  in_beside : (x : A) (ys : List B) (p : A × B) → In p (beside x ys) → (x ≡ p.0) × In p.1 ys
  in_beside x [] p h = absurd h
  in_beside x (z ∷ ys) p (inl e) = (subst (λ q. x ≡ q.0) e refl, inl (subst (λ q. z ≡ q.1) e refl))
  in_beside x (z ∷ ys) p (inr h) = let (e, i) = in_beside x ys p h in (e, inr i)

  pub pairs_in : (xs : List A) (ys : List B) (x : A) (y : B) → In x xs → In y ys → In (x, y) (pairs xs ys)
  pairs_in [] ys x y h k = absurd h
  pairs_in (z ∷ xs) ys x y (inl e) k =
      in_left (beside z ys) (pairs xs ys) (x, y) (subst (λ w. In (w, y) (beside z ys)) e (beside_in z ys y k))
  pairs_in (z ∷ xs) ys x y (inr h) k = in_right (beside z ys) (pairs xs ys) (x, y) (pairs_in xs ys x y h k)

  pub in_pairs : (xs : List A) (ys : List B) (p : A × B) → In p (pairs xs ys) → In p.0 xs × In p.1 ys
  in_pairs [] ys p h = absurd h
  in_pairs (z ∷ xs) ys p h = go (λ k. in_pairs xs ys p k) (in_either (beside z ys) (pairs xs ys) p h)
    where
      go : (In p (pairs xs ys) → In p.0 xs × In p.1 ys) → In p (beside z ys) ⊎ In p (pairs xs ys)
          → In p.0 (z ∷ xs) × In p.1 ys
      go more (inl k) = let (e, i) = in_beside z ys p k in (inl e, i)
      go more (inr k) = let (i, j) = more k in (inr i, j)
