-- What a granted commit changes: the versions written, and no chain of dependence.
use Rattle.std.proofs.Common.{◌≡◌, ℕ, suc, ◌<◌, ◌≤◌, true, false, eqb, ◌⊎◌, sym, refl, ◌∙◌, inl, inr, arith}
use Rattle.std.proofs.lemmas.Bool.{cases_lt, cases_Bool, cond-true, cond-false, and_right, and_from, eq-eqb, ne_eqb}
use Rattle.isolation.specs.History.{Depends}
use Rattle.isolation.specs.Account.{Account, drafted, makes, after_commit}
use Rattle.isolation.specs.AccountHistory.{Reads, Writes, history}
use Rattle.isolation.specs.Lawful.{Follows, Kept}
use Rattle.isolation.proofs.Chains.{depends_carry}

module _ (a : Account) (t : ℕ) where
  pub newest_drafted : (x : ℕ) → drafted (a.drafts t) x ≡ true → (after_commit a t).newest x ≡ suc (a.newest x)
  newest_drafted x d = cond-true (drafted (a.drafts t) x) (suc (a.newest x)) (a.newest x) d

  pub newest_other : (x : ℕ) → drafted (a.drafts t) x ≡ false → (after_commit a t).newest x ≡ a.newest x
  newest_other x d = cond-false (drafted (a.drafts t) x) (suc (a.newest x)) (a.newest x) d

  pub newest_grows : (x : ℕ) → a.newest x ≤ (after_commit a t).newest x
  newest_grows x = go (cases_Bool (drafted (a.drafts t) x))
    where
      go : (drafted (a.drafts t) x ≡ true) ⊎ (drafted (a.drafts t) x ≡ false) → a.newest x ≤ (after_commit a t).newest x
      go (inl d) = omega (arith, newest_drafted x d)
      go (inr d) = omega (arith, newest_other x d)

  -- a version that there was keeps its writer
  pub writer_old : (x k : ℕ) → k ≤ a.newest x → (after_commit a t).writer x k ≡ a.writer x k
  writer_old x k le = cond-false (makes a t x k) t (a.writer x k)
      (and_right (drafted (a.drafts t) x) (eqb k (suc (a.newest x))) (ne_eqb k (suc (a.newest x)) (omega arith)))

  pub wrote_old : (u x k : ℕ) → Writes a u x k → Writes (after_commit a t) u x k
  wrote_old u x k (p, le, e) = (p, omega (arith, newest_grows x), writer_old x k le ∙ e)

  pub wrote_new : (x : ℕ) → drafted (a.drafts t) x ≡ true → Writes (after_commit a t) t x (suc (a.newest x))
  wrote_new x d = (
    omega arith,
    omega (arith, newest_drafted x d),
    cond-true (makes a t x (suc (a.newest x))) t (a.writer x (suc (a.newest x)))
        (and_from (drafted (a.drafts t) x) (eqb (suc (a.newest x)) (suc (a.newest x))) d (eq-eqb (suc (a.newest x)) (suc (a.newest x)) refl)),
  )

  -- t's commit made version k of card x
  abbrev pub Made : (u x k : ℕ) → Type 0
  Made u x k = (t ≡ u) × (drafted (a.drafts t) x ≡ true) × (k ≡ suc (a.newest x))

  pub wrote_cases : (u x k : ℕ) → Writes (after_commit a t) u x k → Writes a u x k ⊎ Made u x k
  wrote_cases u x k w = go (cases_lt (a.newest x) k) (cases_Bool (drafted (a.drafts t) x))
    where
      go : (a.newest x < k) ⊎ (k ≤ a.newest x) → (drafted (a.drafts t) x ≡ true) ⊎ (drafted (a.drafts t) x ≡ false)
          → Writes a u x k ⊎ Made u x k
      go (inr le) d = inl (w.0, le, sym (writer_old x k le) ∙ w.2)
      go (inl lt) (inr d) = absurd (omega (arith, newest_other x d, w.1))
      go (inl lt) (inl d) =
          let e : k ≡ suc (a.newest x) = omega (arith, newest_drafted x d, w.1) in
          inr (
            sym (cond-true (makes a t x k) t (a.writer x k)
                (and_from (drafted (a.drafts t) x) (eqb k (suc (a.newest x))) d (eq-eqb k (suc (a.newest x)) e))) ∙ w.2,
            d,
            e,
          )

module _ (a : Account) (k : Kept a) (t : ℕ) where
  -- nobody has read what the commit makes, so who depends on whom stays
  pub commit_forth : {u v : ℕ} → Depends (history a) u v → Depends (history (after_commit a t)) u v
  commit_forth d = depends_carry (history a) (history (after_commit a t)) (λ z. Unit {0})
      (λ u v x m p r w. (r, wrote_old a t v x m w, tt)) tt d

  pub commit_back : {u v : ℕ} → Depends (history (after_commit a t)) u v → Depends (history a) u v
  commit_back d = depends_carry (history (after_commit a t)) (history a) (λ z. Unit {0})
      (λ u v x m p r w. (r, read_old u v x m r (wrote_cases a t v x m w), tt)) tt d
    where
      read_old : (u v x m : ℕ) → Reads a u x m → Writes a v x m ⊎ Made a t v x m → Writes a v x m
      read_old u v x m r (inl w) = w
      read_old u v x m r (inr w) = absurd (omega (arith, k.read_exists u x m r, w.2))

  pub follows_forth : {u v : ℕ} → Follows (history a) u v → Follows (history (after_commit a t)) u v
  follows_forth (inl e) = inl e
  follows_forth (inr d) = inr (commit_forth d)

  pub follows_back : {u v : ℕ} → Follows (history (after_commit a t)) u v → Follows (history a) u v
  follows_back (inl e) = inl e
  follows_back (inr d) = inr (commit_back d)
