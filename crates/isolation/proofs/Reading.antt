-- A first read: it keeps what stamps mean, whichever version it is of; and it keeps the snapshot consistent exactly when the
-- version fits. A version that fits always exists.
use Rattle.std.proofs.Common.{◌≡◌, ℕ, zero, suc, ◌<◌, ◌≤◌, true, ◌⊎◌, List, [], ◌∷◌, ◌++◌, sym, refl, subst, inl, inr, arith}
use Rattle.std.proofs.lemmas.Bool.{cases_eq, both_ways}
use Rattle.isolation.specs.History.{Depends, Consistent}
use Rattle.isolation.specs.Account.{Account, Reading, enter_read}
use Rattle.isolation.specs.AccountHistory.{Has, Reads, Writes, history}
use Rattle.isolation.specs.Vectors.{Stamps}
use Rattle.isolation.specs.Lawful.{Follows, Silent, Meant, Kept, Lawful, Fitting, Fits}
use Rattle.isolation.proofs.Chains.{depends_carry}
use Rattle.isolation.proofs.Counts.{fitting_consistent, consistent_fitting}
use Rattle.isolation.proofs.Lists.{at_one_here, at_one_there, has_old, has_new, has_cases}

-- one who is open wrote nothing
pub open_silent : (a : Account) → Kept a → (t : ℕ) → a.opened t ≡ true → Silent (history a) t
open_silent a k t o x j w = both_ways (a.committed t) (k.open_undone t o) (k.writer_done t x j w)

-- a version above 0 that there is has a writer
pub written : (a : Account) (x k : ℕ) → 0 < k → k ≤ a.newest x → Writes a (a.writer x k) x k
written a x k p le = (p, le, refl)

-- a version's own entry is its number
pub own_entry : (a : Account) (s : Stamps) → Lawful a s → (x k : ℕ) → x < a.listed → k ≤ a.newest x → s x k x ≡ k
own_entry a s l x zero lx le = l.meant.zeros x x lx lx
own_entry a s l x (suc k) lx le = l.meant.own (a.writer x (suc k)) x (suc k) (written a x (suc k) (omega arith) le)

-- t's reads, with version n of card x among them
abbrev pub with_read : Account → (t x n : ℕ) → List Reading
with_read a t x n = a.reads t ++ (record { card = x; version = n } ∷ [])

module _ (a : Account) (t x n : ℕ) where
  pub entered_old : (u y m : ℕ) → Reads a u y m → Reads (enter_read a t x n) u y m
  entered_old u y m r = go (cases_eq u t)
    where
      go : (u ≡ t) ⊎ (u ≡ t → ⊥) → Reads (enter_read a t x n) u y m
      go (inl e) =
          subst (λ rs. Has rs y m) (sym (at_one_here a.reads t (with_read a t x n) u e))
          (has_old (a.reads t) (record { card = x; version = n } ∷ []) y m (subst (λ v. Reads a v y m) e r))
      go (inr ne) =
          subst (λ rs. Has rs y m) (sym (at_one_there a.reads t (with_read a t x n) u ne)) r

  pub entered_new : Reads (enter_read a t x n) t x n
  entered_new =
      subst (λ rs. Has rs x n) (sym (at_one_here a.reads t (with_read a t x n) t refl))
      (has_new (a.reads t) (record { card = x; version = n }))

  pub entered_there : (u y m : ℕ) → (u ≡ t → ⊥) → Reads (enter_read a t x n) u y m → Reads a u y m
  entered_there u y m ne r =
      subst (λ rs. Has rs y m) (at_one_there a.reads t (with_read a t x n) u ne) r

  pub entered_cases : (u y m : ℕ) → Reads (enter_read a t x n) u y m → Reads a u y m ⊎ ((t ≡ u) × (x ≡ y) × (n ≡ m))
  entered_cases u y m r = go (cases_eq u t)
    where
      here : u ≡ t → Has (a.reads t) y m ⊎ ((x ≡ y) × (n ≡ m)) → Reads a u y m ⊎ ((t ≡ u) × (x ≡ y) × (n ≡ m))
      here e (inl h) = inl (subst (λ v. Reads a v y m) (sym e) h)
      here e (inr h) = inr (sym e, h.0, h.1)

      go : (u ≡ t) ⊎ (u ≡ t → ⊥) → Reads a u y m ⊎ ((t ≡ u) × (x ≡ y) × (n ≡ m))
      go (inl e) =
          here e (has_cases (a.reads t) (record { card = x; version = n }) y m
          (subst (λ rs. Has rs y m) (at_one_here a.reads t (with_read a t x n) u e) r))
      go (inr ne) = inl (entered_there u y m ne r)

module _ (a : Account) (s : Stamps) (l : Lawful a s) (t x n : ℕ) (o : a.opened t ≡ true) (lx : x < a.listed) (le : n ≤ a.newest x) where
  -- a writer is another than t
  pub writer_other : (u y m : ℕ) → Writes a u y m → u ≡ t → ⊥
  writer_other u y m w e = open_silent a l.kept t o y m (subst (λ v. Writes a v y m) e w)

  -- so the chains from a writer are as before
  forth : (u v : ℕ) → Depends (history a) u v → Depends (history (enter_read a t x n)) u v
  forth u v d = depends_carry (history a) (history (enter_read a t x n)) (λ z. Unit {0})
      (λ u v y m p r w. (entered_old a t x n u y m r, w, tt)) tt d

  back : (u v : ℕ) → (u ≡ t → ⊥) → Depends (history (enter_read a t x n)) u v → Depends (history a) u v
  back u v ne d = depends_carry (history (enter_read a t x n)) (history a) (λ z. z ≡ t → ⊥)
      (λ u v y m p r w. (entered_there a t x n u y m p r, w, writer_other v y m w)) ne d

  follows_forth : (u v : ℕ) → Follows (history a) u v → Follows (history (enter_read a t x n)) u v
  follows_forth u v (inl e) = inl e
  follows_forth u v (inr d) = inr (forth u v d)

  follows_back : (u v : ℕ) → (u ≡ t → ⊥) → Follows (history (enter_read a t x n)) u v → Follows (history a) u v
  follows_back u v ne (inl e) = inl e
  follows_back u v ne (inr d) = inr (back u v ne d)

  pub entered_listed : (u y m : ℕ) → Reads a u y m ⊎ ((t ≡ u) × (x ≡ y) × (n ≡ m)) → (y < a.listed) × (m ≤ a.newest y)
  entered_listed u y m (inl r) = (l.meant.read_listed u y m r, l.kept.read_exists u y m r)
  entered_listed u y m (inr e) = subst (λ z. (z < a.listed) × (m ≤ a.newest z)) e.1 (lx, subst (λ j. j ≤ a.newest x) e.2 le)

  -- adding a read of any version that there is keeps what stamps mean
  pub read_meant : Meant (history (enter_read a t x n)) a.listed s
  read_meant = record {
    read_listed = λ u y m r. (entered_listed u y m (entered_cases a t x n u y m r)).0;
    wrote_listed = l.meant.wrote_listed;
    wrote_above = l.meant.wrote_above;
    exists = λ u y m r.
        (a.writer y (suc m), written a y (suc m) (omega arith) (entered_listed u y (suc m) (entered_cases a t x n u y (suc m) r)).1);
    sole = l.meant.sole;
    chain = λ u y m w. entered_old a t x n u y m (l.meant.chain u y m w);
    zeros = l.meant.zeros;
    own = l.meant.own;
    reached = λ u y m z j w lz p c.
        let (v, i, f) = l.meant.reached u y m z j w lz p c in (v, i, follows_forth u v f);
    reaches = λ u v y m z j w i f. l.meant.reaches u v y m z j w i (follows_back u v (writer_other u y m w) f);
  }

  -- the reads fit one another after it exactly when the version fits those before it
  pub fits_fitting : Fits a s t x n → Fitting (history (enter_read a t x n)) s t
  fits_fitting f y m z j r q = go (entered_cases a t x n t y m r) (entered_cases a t x n t z j q)
    where
      own : s x n x ≤ n
      own = omega (arith, own_entry a s l x n lx le)

      go : Reads a t y m ⊎ ((t ≡ t) × (x ≡ y) × (n ≡ m)) → Reads a t z j ⊎ ((t ≡ t) × (x ≡ z) × (n ≡ j)) → s y m z ≤ j
      go (inl r) (inl q) = l.fitting t y m z j r q
      go (inl r) (inr e) = subst (λ w. s y m w ≤ j) e.1 (subst (λ i. s y m x ≤ i) e.2 (f y m r).1)
      go (inr e) (inl q) = subst (λ w. s w m z ≤ j) e.1 (subst (λ i. s x i z ≤ j) e.2 (f z j q).0)
      go (inr e) (inr g) =
          subst (λ w. s w m z ≤ j) e.1 (subst (λ i. s x i z ≤ j) e.2 (subst (λ w. s x n w ≤ j) g.1 (subst (λ i. s x n x ≤ i) g.2 own)))

  pub fitting_fits : Fitting (history (enter_read a t x n)) s t → Fits a s t x n
  fitting_fits f y m r =
      (f x n y m (entered_new a t x n) (entered_old a t x n t y m r), f y m x n (entered_old a t x n t y m r) (entered_new a t x n))

  -- so a version fits exactly when reading it keeps the snapshot consistent
  pub entered_consistent : Fits a s t x n → Consistent (history (enter_read a t x n)) t
  entered_consistent f = fitting_consistent (history (enter_read a t x n)) a.listed s read_meant t (fits_fitting f)

  pub entered_fits : Consistent (history (enter_read a t x n)) t → Fits a s t x n
  entered_fits c = fitting_fits (consistent_fitting (history (enter_read a t x n)) a.listed s read_meant t c)
