-- The open places and the account's open transactions, over each change of a place.
use Rattle.std.proofs.Common.{◌≡◌, ℕ, ◌<◌, true, false, ◌⊎◌, List, length, set, replicate, Some, None, Option, sym, refl, ap, ◌∙◌, subst, inl, inr}
use Rattle.std.specs.List.{slice_get}
use Rattle.std.proofs.lemmas.Bool.{cases_Bool, cases_eq, both_ways, eqb-true, eq-eqb}
use Rattle.isolation.specs.Account.{Account}
use Rattle.transactions.specs.State.{Open, State, last_at, numbered, at_place, placed, held, standing}
use Rattle.transactions.specs.Watched.{told, Tied}
use Rattle.transactions.proofs.Places.{none_some, some_same, nth_within, nth_set_here, nth_set_there, nth_replicate, none_last, only_last}

-- a place that passes the test has a transaction of that number
numbered_is : (t : ℕ) (y : Option Open) → numbered t y ≡ true → (o : Open) × (y ≡ Some o) × (o.number ≡ t)
numbered_is t None e = absurd (both_ways false refl e)
numbered_is t (Some o) e = (o, refl, eqb-true o.number t e)

module _ (a : Account) (ps : List (Option Open)) (w : Tied a ps) where
  -- an open transaction has one place
  pub place_open : (t : ℕ) → a.opened t ≡ true → (i : ℕ) × (slice_get ps i ≡ Some (Some (told a t))) × (last_at (numbered t) ps ≡ Some i)
  place_open t e =
      let (i, p) = w.has_place t e in
      (i, p, only_last (numbered t) ps i (Some (told a t)) p (eq-eqb t t refl) (λ j y q u. other i p j y q (numbered_is t y u)))
    where
      other : (i : ℕ) → slice_get ps i ≡ Some (Some (told a t)) → (j : ℕ) (y : Option Open) → slice_get ps j ≡ Some y
          → (o : Open) × (y ≡ Some o) × (o.number ≡ t) → j ≡ i
      other i p j y q (o, r, n) = w.alone j i o (told a t) (q ∙ ap Some r) p n

  -- any other number has none
  pub place_shut : (t : ℕ) → a.opened t ≡ false → last_at (numbered t) ps ≡ None
  place_shut t e = none_last (numbered t) ps (λ k y q. rest k y q (cases_Bool (numbered t y)))
    where
      found : (k : ℕ) (y : Option Open) → slice_get ps k ≡ Some y → (o : Open) × (y ≡ Some o) × (o.number ≡ t) → ⊥
      found k y q (o, r, n) = both_ways (a.opened t) e (subst (λ u. a.opened u ≡ true) n (w.is_open k o (q ∙ ap Some r)))

      rest : (k : ℕ) (y : Option Open) → slice_get ps k ≡ Some y → (numbered t y ≡ true) ⊎ (numbered t y ≡ false) → numbered t y ≡ false
      rest k y q (inl u) = absurd (found k y q (numbered_is t y u))
      rest k y q (inr u) = u

pub held_open : (a : Account) (b : State) → Tied a b.places → (t : ℕ) → a.opened t ≡ true → held b t ≡ Some (told a t)
held_open a b w t e =
    let (i, p, q) = place_open a b.places w t e in
    ap (at_place b.places) q ∙ ap standing p

pub held_shut : (a : Account) (b : State) → Tied a b.places → (t : ℕ) → a.opened t ≡ false → held b t ≡ None
held_shut a b w t e = ap (at_place b.places) (place_shut a b.places w t e)

-- transactions other than t are as they were
pub record Others (a c : Account) (t : ℕ) : Type 0 where
  pub opened : (u : ℕ) → (u ≡ t → ⊥) → c.opened u ≡ a.opened u
  pub reads : (u : ℕ) → (u ≡ t → ⊥) → c.reads u ≡ a.reads u
  pub drafts : (u : ℕ) → (u ≡ t → ⊥) → c.drafts u ≡ a.drafts u

told_same : (a c : Account) (t u : ℕ) → Others a c t → (u ≡ t → ⊥) → told c u ≡ told a u
told_same a c t u s ne = λ z. record { number = u; reads = s.reads u ne z; drafts = s.drafts u ne z }

-- place i, free or with t, gets v: t as it now is, or nothing
pub record Placing (a c : Account) (ps : List (Option Open)) (t i : ℕ) (v : Option Open) : Type 0 where
  pub others : Others a c t
  pub within : i < length ps
  pub here : (o : Open) → slice_get ps i ≡ Some (Some o) → o.number ≡ t
  pub there : (j : ℕ) (o : Open) → slice_get ps j ≡ Some (Some o) → o.number ≡ t → j ≡ i
  pub opens : (o : Open) → v ≡ Some o → (c.opened t ≡ true) × (o ≡ told c t)
  pub placed : c.opened t ≡ true → v ≡ Some (told c t)

module _ (a c : Account) (ps : List (Option Open)) (t i : ℕ) (v : Option Open) (w : Tied a ps) (s : Placing a c ps t i v) where
  at_i : (j : ℕ) (o : Open) → j ≡ i → slice_get (set ps i v) j ≡ Some (Some o) → v ≡ Some o
  at_i j o q e = some_same (sym (nth_set_here ps i v s.within) ∙ subst (λ k. slice_get (set ps i v) k ≡ Some (Some o)) q e)

  off_i : (j : ℕ) (o : Open) → (j ≡ i → ⊥) → slice_get (set ps i v) j ≡ Some (Some o) → slice_get ps j ≡ Some (Some o)
  off_i j o ne e = sym (nth_set_there ps i j v ne) ∙ e

  number_i : (j : ℕ) (o : Open) → j ≡ i → slice_get (set ps i v) j ≡ Some (Some o) → o.number ≡ t
  number_i j o q e = ap (λ (p : Open). p.number) (s.opens o (at_i j o q e)).1

  number_off : (j : ℕ) (o : Open) → (j ≡ i → ⊥) → slice_get (set ps i v) j ≡ Some (Some o) → o.number ≡ t → ⊥
  number_off j o ne e n = ne (s.there j o (off_i j o ne e) n)

  pub tied_set : Tied c (set ps i v)
  tied_set = record {
    is_open = λ j o e. opened j o e (cases_eq j i);
    is_told = λ j o e. as_told j o e (cases_eq j i);
    has_place = λ u e. place u e (cases_eq u t);
    alone = λ j k o p e f n. one j k o p e f n (cases_eq j i) (cases_eq k i);
  }
    where
      opened : (j : ℕ) (o : Open) → slice_get (set ps i v) j ≡ Some (Some o) → (j ≡ i) ⊎ (j ≡ i → ⊥) → c.opened o.number ≡ true
      opened j o e (inl q) = subst (λ n. c.opened n ≡ true) (sym (number_i j o q e)) (s.opens o (at_i j o q e)).0
      opened j o e (inr ne) =
          s.others.opened o.number (number_off j o ne e) ∙ w.is_open j o (off_i j o ne e)

      as_told : (j : ℕ) (o : Open) → slice_get (set ps i v) j ≡ Some (Some o) → (j ≡ i) ⊎ (j ≡ i → ⊥) → o ≡ told c o.number
      as_told j o e (inl q) = (s.opens o (at_i j o q e)).1 ∙ ap (told c) (sym (number_i j o q e))
      as_told j o e (inr ne) =
          w.is_told j o (off_i j o ne e) ∙ sym (told_same a c t o.number s.others (number_off j o ne e))

      off : (u k : ℕ) → (u ≡ t → ⊥) → slice_get ps k ≡ Some (Some (told a u)) → k ≡ i → ⊥
      off u k ne e q = ne (s.here (told a u) (subst (λ j. slice_get ps j ≡ Some (Some (told a u))) q e))

      place : (u : ℕ) → c.opened u ≡ true → (u ≡ t) ⊎ (u ≡ t → ⊥) → (k : ℕ) × (slice_get (set ps i v) k ≡ Some (Some (told c u)))
      place u e (inl q) =
          (i, nth_set_here ps i v s.within ∙ ap Some (s.placed (subst (λ x. c.opened x ≡ true) q e) ∙ ap (λ x. Some (told c x)) (sym q)))
      place u e (inr ne) =
          let (k, f) = w.has_place u (sym (s.others.opened u ne) ∙ e) in
          (k, nth_set_there ps i k v (off u k ne f) ∙ f ∙ ap (λ o. Some (Some o)) (sym (told_same a c t u s.others ne)))

      one : (j k : ℕ) (o p : Open) → slice_get (set ps i v) j ≡ Some (Some o) → slice_get (set ps i v) k ≡ Some (Some p) → o.number ≡ p.number
          → (j ≡ i) ⊎ (j ≡ i → ⊥) → (k ≡ i) ⊎ (k ≡ i → ⊥) → j ≡ k
      one j k o p e f n (inl q) (inl r) = q ∙ sym r
      one j k o p e f n (inl q) (inr r) = absurd (number_off k p r f (sym n ∙ number_i j o q e))
      one j k o p e f n (inr q) (inl r) = absurd (number_off j o q e (n ∙ number_i k p r f))
      one j k o p e f n (inr q) (inr r) = w.alone j k o p (off_i j o q e) (off_i k p r f) n

-- free places and nobody open
pub tied_empty : (a : Account) (n : ℕ) → ((t : ℕ) → a.opened t ≡ false) → Tied a (replicate n None)
tied_empty a n e = record {
  is_open = λ i o q. absurd (none_some (nth_replicate n i None (Some o) q));
  is_told = λ i o q. absurd (none_some (nth_replicate n i None (Some o) q));
  has_place = λ t q. absurd (both_ways (a.opened t) (e t) q);
  alone = λ i j o p q r k. absurd (none_some (nth_replicate n i None (Some o) q));
}

-- the place of an open transaction gets it as it now is, or nothing
pub tied_placed : (a c : Account) (ps : List (Option Open)) (t : ℕ) (v : Option Open) → Tied a ps → a.opened t ≡ true → Others a c t
    → ((o : Open) → v ≡ Some o → (c.opened t ≡ true) × (o ≡ told c t)) → (c.opened t ≡ true → v ≡ Some (told c t))
    → Tied c (placed ps (last_at (numbered t) ps) v)
tied_placed a c ps t v w e s opens into =
    let (i, p, q) = place_open a ps w t e in
    subst (λ k. Tied c (placed ps k v)) (sym q) (tied_set a c ps t i v w (record {
      others = s;
      within = nth_within ps i (Some (told a t)) p;
      here = λ o r. let k : o ≡ told a t = some_same (some_same (sym r ∙ p)) in ap (λ (x : Open). x.number) k;
      there = λ j o r n. w.alone j i o (told a t) r p n;
      opens = λ o r. opens o r;
      placed = into;
    }))
