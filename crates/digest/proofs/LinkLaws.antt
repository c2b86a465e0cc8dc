-- Walks over listed entries, from the newest to the oldest of a node.
use Rattle.std.proofs.Common.{◌≡◌, ℕ, suc, ◌<◌, ◌≤◌, Bool, true, false, List, [], ◌∷◌, length, sym, ap, ◌∙◌, subst, inl, inr, arith}
use Rattle.std.proofs.lemmas.Bool.{cases_lt, cases_Bool, both_ways}
use Rattle.reach.specs.Links.{picks}
use Rattle.reach.proofs.PickLaws.{Passed, passed_none, passed_here, passed_between, passed_more, passed_all}
use Rattle.digest.specs.declared.entry.Entry.{Entry}
use Rattle.digest.specs.Entries.{at}
use Rattle.digest.specs.Links.{Linked}

-- no place from i up to n passes the test
abbrev pub NoneFrom : (ℕ → Bool) → ℕ → ℕ → Type 0
NoneFrom p i n = (k : ℕ) → i ≤ k → k < n → p k ≡ false

-- what passes is listed under the node
abbrev pub Only : (Entry → ℕ) → List Entry → ℕ → (ℕ → Bool) → ℕ → Type 0
Only key es n p m = (k : ℕ) → k < n → p k ≡ true → key (at es k) ≡ m

-- the places from a node that are still to come, where none that was passed passes the test
abbrev pub Ahead : (ℕ → ℕ → Bool) → ℕ → (ℕ → Bool) → ℕ → List ℕ → Type 0
Ahead comes m p b xs = Passed (comes m) (λ i. (i < b) × (p i ≡ true)) b xs

none_from : (p : ℕ → Bool) (a b : ℕ) → ((i : ℕ) → a ≤ i → i < b → (i < b) × (p i ≡ true) → ⊥) → NoneFrom p a b
none_from p a b none = λ i ge lt. elim (cases_Bool (p i)) [ inl t ↦ absurd (none i ge lt (lt, t)) | inr f ↦ f ]

module _ (count : ℕ) (comes : ℕ → ℕ → Bool) (key : Entry → ℕ) (es : List Entry) (linked : Linked count comes key es (length es))
    (p : ℕ → Bool) (m b : ℕ) (few : b ≤ length es) (only : Only key es (length es) p m) where
  comes_there : (i : ℕ) → (i < b) × (p i ≡ true) → comes m i ≡ true
  comes_there i (lt, h) = let in' : i < length es = omega arith in subst (λ n. comes n i ≡ true) (only i in' h) (linked.by i in')

  pub ahead_all : (xs : List ℕ) → xs ≡ picks (comes m) b → Ahead comes m p b xs
  ahead_all xs e = passed_none (comes m) (λ i. (i < b) × (p i ≡ true)) b xs e

  -- the next place, k, with those behind it
  module _ (k : ℕ) (xs ys : List ℕ) (step : xs ≡ k ∷ ys) (h : Ahead comes m p b xs) where
    turned : Ahead comes m p b (k ∷ ys)
    turned = subst (Ahead comes m p b) step h

    pub ahead_here : k < b
    ahead_here = (passed_here (comes m) (λ i. (i < b) × (p i ≡ true)) b k ys turned).0

    pub ahead_after : NoneFrom p (suc k) b
    ahead_after = none_from p (suc k) b (λ i ge lt. passed_between (comes m) (λ i. (i < b) × (p i ≡ true)) b comes_there k ys turned i (omega arith) lt)

    pub ahead_more : p k ≡ false → Ahead comes m p b ys
    ahead_more f = passed_more (comes m) (λ i. (i < b) × (p i ≡ true)) b comes_there k ys turned (λ t. both_ways _ f t.1)

  pub ahead_none : (xs : List ℕ) → xs ≡ [] → Ahead comes m p b xs → NoneFrom p 0 b
  ahead_none xs e h = none_from p 0 b (λ i ge lt. passed_all (comes m) (λ i. (i < b) × (p i ≡ true)) b comes_there (subst (Ahead comes m p b) e h) i lt)

-- no entry, no place
pub linked_none : (count : ℕ) (comes : ℕ → ℕ → Bool) (key : Entry → ℕ) (es : List Entry) → count ≡ 0 → Linked count comes key es 0
linked_none count comes key es e = record { each = e; by = λ k lt. absurd (omega arith) }

-- the listing after one place more, from node m
pub record Grown (count count' : ℕ) (comes comes' : ℕ → ℕ → Bool) (m : ℕ) : Type 0 where
  pub more : count' ≡ suc count
  pub here : comes' m count ≡ true
  pub kept : (n k : ℕ) → k < count → comes n k ≡ true → comes' n k ≡ true

-- one entry more is listed
pub linked_more : (count count' : ℕ) (comes comes' : ℕ → ℕ → Bool) (key : Entry → ℕ) (es : List Entry) (n : ℕ) → Linked count comes key es n
    → Grown count count' comes comes' (key (at es n)) → Linked count' comes' key es (suc n)
linked_more count count' comes comes' key es n l g = record {
  each = g.more ∙ ap suc l.each;
  by = λ k lt. elim (cases_lt k n) [
    | inl below ↦ g.kept (key (at es k)) k (omega (arith, l.each)) (l.by k below)
    | inr ge ↦
        let same : n ≡ k = omega arith in
        subst (λ i. comes' (key (at es i)) i ≡ true) same (subst (λ i. comes' (key (at es n)) i ≡ true) l.each g.here)
  ];
}

-- the same entries, and others behind them
pub linked_same : (count : ℕ) (comes : ℕ → ℕ → Bool) (key : Entry → ℕ) (es fs : List Entry) (n : ℕ) → ((k : ℕ) → k < n → at fs k ≡ at es k)
    → Linked count comes key es n → Linked count comes key fs n
linked_same count comes key es fs n same l = record { each = l.each; by = λ k lt. subst (λ (e : Entry). comes (key e) k ≡ true) (sym (same k lt)) (l.by k lt) }
