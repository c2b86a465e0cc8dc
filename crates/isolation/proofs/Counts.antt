-- What an entry tells, in any history whose stamps mean what they should.
use Rattle.std.proofs.Common.{◌≡◌, ℕ, zero, suc, ◌<◌, ◌≤◌, ◌⊎◌, sym, refl, subst, inl, inr, arith}
use Rattle.std.proofs.lemmas.Bool.{cases_lt}
use Rattle.isolation.specs.History.{History, Depends, Consistent, Clash}
use Rattle.isolation.specs.History.Depends.{one, more}
use Rattle.isolation.specs.Vectors.{Stamps}
use Rattle.isolation.specs.Lawful.{Follows, Meant, Fitting}
use Rattle.isolation.proofs.Chains.{follows_on}

module _ (h : History) (n : ℕ) (s : Stamps) (m : Meant h n s) where
  -- a reader depends on whomever the stamp it read counts
  pub counted_depends : (t x k y j : ℕ) → h.Read t x k → y < n → 0 < j → j ≤ s x k y → (v : ℕ) × h.Wrote v y j × Depends h t v
  counted_depends t x zero y j r ly p c = absurd (omega (arith, m.zeros x y (m.read_listed t x zero r) ly))
  counted_depends t x (suc k) y j r ly p c = go (m.exists t x k r)
    where
      next : (u v : ℕ) → h.Wrote u x (suc k) → Follows h u v → Depends h t v
      next u v w (inl e) = one (record { card = x; version = suc k; read = r; wrote = subst (λ z. h.Wrote z x (suc k)) e w })
      next u v w (inr d) = more (record { card = x; version = suc k; read = r; wrote = w }) d

      go : (u : ℕ) × h.Wrote u x (suc k) → (v : ℕ) × h.Wrote v y j × Depends h t v
      go e =
          let (v, w, f) = m.reached e.0 x (suc k) y j e.1 ly p c in
          (v, w, next e.0 v e.1 f)

  -- whomever a reader depends on, a stamp it read counts
  pub depends_counted : (t v y j : ℕ) → Depends h t v → h.Wrote v y j → (x : ℕ) × (k : ℕ) × h.Read t x k × (j ≤ s x k y)
  depends_counted t v y j (one r) w =
      (r.card, r.version, r.read, m.reaches v v r.card r.version y j r.wrote w (inl refl))
  depends_counted t v y j (more {u = u} r d) w =
      (r.card, r.version, r.read, m.reaches u v r.card r.version y j r.wrote w (inr d))

  -- reads that fit are consistent
  pub fitting_consistent : (t : ℕ) → Fitting h s t → Consistent h t
  fitting_consistent t f u x k j r d w =
      let (z, l, q, c) = depends_counted t u x j d w in
      omega (arith, f z l x k q r)

  -- and consistent reads fit
  pub consistent_fitting : (t : ℕ) → Consistent h t → Fitting h s t
  consistent_fitting t c x k y l r q = go (cases_lt l (s x k y))
    where
      go : (l < s x k y) ⊎ (s x k y ≤ l) → s x k y ≤ l
      go (inl lt) =
          let (v, w, d) = counted_depends t x k y (s x k y) r (m.read_listed t y l q) (omega arith) (omega arith) in
          c v y l (s x k y) q d w
      go (inr le) = le

  -- the stamp of one that is depended on is below, entry by entry
  pub followed_below : (u v x k z j y : ℕ) → h.Wrote u x k → h.Wrote v z j → Follows h u v → y < n → s z j y ≤ s x k y
  followed_below u v x k z j y wu wv f ly = go (s z j y) refl
    where
      go : (i : ℕ) → s z j y ≡ i → i ≤ s x k y
      go zero e = omega arith
      go (suc i) e =
          let (t, w, g) = m.reached v z j y (suc i) wv ly (omega arith) (omega arith) in
          m.reaches u t x k y (suc i) wu w (follows_on f g)

  -- what a stamp counts is below it
  pub counted_below : (u x k z j y : ℕ) → h.Wrote u x k → z < n → 0 < j → j ≤ s x k z → y < n → s z j y ≤ s x k y
  counted_below u x k z j y wu lz p c ly =
      let (v, w, f) = m.reached u x k z j wu lz p c in
      followed_below u v x k z j y wu w f ly

  -- of two writers of a card, the later one is, or depends on, the earlier one
  pub later_follows : (u v x k l : ℕ) → h.Wrote u x k → h.Wrote v x l → k ≤ l → Follows h v u
  later_follows u v x k l wu wv le =
      let (t, w, f) = m.reached v x l x k wv (m.wrote_listed v x l wv) (m.wrote_above u x k wu) (omega (arith, m.own v x l wv)) in
      subst (Follows h v) (m.sole t u x k w wu) f

  -- so no two committed writers of a card are independent
  pub never_clash : Clash h → ⊥
  never_clash c = go (cases_lt c.other_version c.one_version)
    where
      apart : (f : Follows h c.one c.other) → ⊥
      apart (inl e) = c.two e
      apart (inr d) = c.apart.forth d

      apart' : (f : Follows h c.other c.one) → ⊥
      apart' (inl e) = c.two (sym e)
      apart' (inr d) = c.apart.back d

      go : (c.other_version < c.one_version) ⊎ (c.one_version ≤ c.other_version) → ⊥
      go (inl lt) = apart (later_follows c.other c.one c.card c.other_version c.one_version c.other_wrote c.one_wrote (omega arith))
      go (inr le) = apart' (later_follows c.one c.other c.card c.one_version c.other_version c.one_wrote c.other_wrote le)
