-- The law of conflict: some drafted card has a newer version than the one read exactly when granting the commit would let two
-- independent committed transactions write one card.
use Rattle.std.proofs.Common.{◌≡◌, ℕ, suc, ◌<◌, ◌≤◌, true, false, cond, eqb, ◌⊎◌, List, [], ◌∷◌, sym, refl, ◌∙◌, subst, inl, inr, arith}
use Rattle.std.proofs.lemmas.Bool.{cases_lt, both_ways, cond-true, cond-false, eqb-true, eq-eqb, ne_eqb, or_cases, or_left, or_right}
use Rattle.isolation.specs.History.{Clash, Depends}
use Rattle.isolation.specs.Account.{Account, Draft, drafted, after_commit}
use Rattle.isolation.specs.AccountHistory.{Reads, Writes, history}
use Rattle.isolation.specs.Vectors.{Stamps}
use Rattle.isolation.specs.Lawful.{Kept, Lawful, Current, Outdated, Extends, new_entry}
use Rattle.isolation.proofs.Chains.{silent_undepended}
use Rattle.isolation.proofs.Counts.{depends_counted, never_clash}
use Rattle.isolation.proofs.Lists.{at_one_here, at_one_there}
use Rattle.isolation.proofs.Reading.{open_silent, written}
use Rattle.isolation.proofs.Committing.{wrote_old, wrote_new, commit_back}
use Rattle.isolation.proofs.CommitLaw.{commit_lawful}

-- the stamps after a commit, as a function
pub extended : Account → Stamps → ℕ → Stamps
extended a s t x k y = cond (eqb k (suc (a.newest x))) (new_entry a s t y) (s x k y)

pub extended_extends : (a : Account) (s : Stamps) (t : ℕ) → Extends a s t (extended a s t)
unfolding extended
extended_extends a s t = record {
  old = λ x k y lx le ly.
      cond-false (eqb k (suc (a.newest x))) (new_entry a s t y) (s x k y) (ne_eqb k (suc (a.newest x)) (omega arith));
  new = λ x y d ly.
      cond-true (eqb (suc (a.newest x)) (suc (a.newest x))) (new_entry a s t y) (s x (suc (a.newest x)) y)
      (eq-eqb (suc (a.newest x)) (suc (a.newest x)) refl);
}

-- a commit without drafts makes no version, so the stamps stay
pub unchanged_extends : (a : Account) (s : Stamps) (t : ℕ) → ((x : ℕ) → drafted (a.drafts t) x ≡ false) → Extends a s t s
unchanged_extends a s t n = record {
  old = λ x k y lx le ly. refl;
  new = λ x y d ly. absurd (both_ways (drafted (a.drafts t) x) (n x) d);
}

pub plain_commit_lawful : (a : Account) (s : Stamps) → Lawful a s → (t : ℕ) → a.opened t ≡ true
    → ((x : ℕ) → drafted (a.drafts t) x ≡ false) → Lawful (after_commit a t) s
plain_commit_lawful a s l t o n =
    commit_lawful a s l t o (λ x d. absurd (both_ways (drafted (a.drafts t) x) (n x) d)) s (unchanged_extends a s t n)

-- each of these drafts is for a card that t read at its newest version
abbrev Good : Account → ℕ → List Draft → Type 0
Good a t ds = (x : ℕ) → drafted ds x ≡ true → Reads a t x (a.newest x)

-- either every drafted card stands at the version read, or one is outdated
pub current_or_outdated : (a : Account) → Kept a → (t : ℕ) → Current a t ⊎ Outdated a t
current_or_outdated a k t = go (a.drafts t) (λ x d. d)
  where
    -- a card drafted, by itself
    card : (x : ℕ) → drafted (a.drafts t) x ≡ true → (j : ℕ) → Reads a t x j
        → (j < a.newest x) ⊎ (a.newest x ≤ j) → Reads a t x (a.newest x) ⊎ Outdated a t
    card x d j r (inl lt) = inr (record { card = x; version = j; draft = d; read = r; newer = lt })
    card x d j r (inr le) =
        let e : j ≡ a.newest x = omega (arith, k.read_exists t x j r) in
        inl (subst (Reads a t x) e r)

    add : (d : Draft) (ds : List Draft) → Reads a t d.card (a.newest d.card) → Good a t ds → Good a t (d ∷ ds)
    add d ds r g x e = pick (or_cases (eqb d.card x) (drafted ds x) e)
      where
        pick : (eqb d.card x ≡ true) ⊎ (drafted ds x ≡ true) → Reads a t x (a.newest x)
        pick (inl q) = subst (λ z. Reads a t z (a.newest z)) (eqb-true d.card x q) r
        pick (inr q) = g x q

    both : (d : Draft) (ds : List Draft) → Reads a t d.card (a.newest d.card) ⊎ Outdated a t
        → Good a t ds ⊎ Outdated a t → Good a t (d ∷ ds) ⊎ Outdated a t
    both d ds (inr b) g = inr b
    both d ds (inl r) (inr b) = inr b
    both d ds (inl r) (inl g) = inl (add d ds r g)

    go : (ds : List Draft) → ((x : ℕ) → drafted ds x ≡ true → drafted (a.drafts t) x ≡ true) → Good a t ds ⊎ Outdated a t
    go [] i = inl (λ x e. absurd (both_ways false refl e))
    go (d ∷ ds) i =
        let q : drafted (a.drafts t) d.card ≡ true
        = i d.card (or_left (eqb d.card d.card) (drafted ds d.card) (eq-eqb d.card d.card refl)) in
        let (j, r) = k.drafted_read t d.card q in
        both d ds (card d.card q j r (cases_lt j (a.newest d.card)))
        (go ds (λ x e. i x (or_right (eqb d.card x) (drafted ds x) e)))

module _ (a : Account) (s : Stamps) (l : Lawful a s) (t : ℕ) (o : a.opened t ≡ true) where
  -- t does not depend on the writer of a version newer than the one it read
  newer_unread : (x k n v : ℕ) → Reads a t x k → k < n → Writes a v x n → Depends (history a) t v → ⊥
  newer_unread x k n v r lt w d =
      let (z, j, q, c) = depends_counted (history a) a.listed s l.meant t v x n d w in
      omega (arith, l.fitting t z j x k q r)

  -- t, and the writer of version n, which t has not read, would both be committed writers of card x
  clash_of : (x k n v : ℕ) → drafted (a.drafts t) x ≡ true → Reads a t x k → k < n → Writes a v x n
      → Clash (history (after_commit a t))
  clash_of x k n v b r lt w = record {
    one = t;
    other = v;
    two = λ e. other (sym e);
    one_done = at_one_here a.committed t true t refl;
    other_done = at_one_there a.committed t true v other ∙ l.kept.writer_done v x n w;
    card = x;
    one_version = suc (a.newest x);
    other_version = n;
    one_wrote = wrote_new a t x b;
    other_wrote = wrote_old a t v x n w;
    apart = record {
      forth = λ d. newer_unread x k n v r lt w (commit_back a l.kept t d);
      back = λ d. silent_undepended (open_silent a l.kept t o) (commit_back a l.kept t d);
    };
  }
    where
      other : v ≡ t → ⊥
      other e = open_silent a l.kept t o x n (subst (λ u. Writes a u x n) e w)

  pub outdated_clash : Outdated a t → Clash (history (after_commit a t))
  outdated_clash b =
      let w = written a b.card (a.newest b.card) (omega (arith, b.newer)) (omega arith) in
      clash_of b.card b.version (a.newest b.card) (a.writer b.card (a.newest b.card)) b.draft b.read b.newer w

  pub clash_outdated : Clash (history (after_commit a t)) → Outdated a t
  clash_outdated c = go (current_or_outdated a l.kept t)
    where
      go : Current a t ⊎ Outdated a t → Outdated a t
      go (inl g) =
          let m = commit_lawful a s l t o g (extended a s t) (extended_extends a s t) in
          absurd (never_clash (history (after_commit a t)) a.listed (extended a s t) m.meant c)
      go (inr b) = b

-- in a lawful account no two independent committed transactions wrote one card
pub lawful_clash_free : (a : Account) (s : Stamps) → Lawful a s → Clash (history a) → ⊥
lawful_clash_free a s l c = never_clash (history a) a.listed s l.meant c
