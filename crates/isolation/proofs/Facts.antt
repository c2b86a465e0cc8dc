-- What the calls cite of a lawful account, beside the laws: bounds of entries, reads of one version, what a commit sets.
use Rattle.std.proofs.Common.{◌≡◌, ℕ, zero, suc, ◌<◌, ◌≤◌, true, false, eqb, ◌⊎◌, refl, inl, inr, arith}
use Rattle.std.proofs.lemmas.Bool.{cases_Bool, eq-eqb, ne_eqb, cond-true, cond-false, and_right, and_from}
use Rattle.isolation.specs.Account.{Account, drafted, draft_of, makes, after_commit}
use Rattle.isolation.specs.AccountHistory.{Reads, Writes}
use Rattle.isolation.specs.Vectors.{Stamps, greatest}
use Rattle.isolation.specs.Lawful.{Lawful, new_entry}
use Rattle.isolation.proofs.Lists.{greatest_reached}
use Rattle.isolation.proofs.Reading.{written, own_entry}
use Rattle.isolation.proofs.Committing.{newest_drafted, newest_other}

module _ (a : Account) (s : Stamps) (l : Lawful a s) where
  -- an entry is at most the number of the entry's newest version
  pub entry_bound : (x k y : ℕ) → x < a.listed → k ≤ a.newest x → y < a.listed → s x k y ≤ a.newest y
  entry_bound x zero y lx le ly = omega (arith, l.meant.zeros x y lx ly)
  entry_bound x (suc k) y lx le ly = go (s x (suc k) y) refl
    where
      go : (j : ℕ) → s x (suc k) y ≡ j → j ≤ a.newest y
      go zero e = omega arith
      go (suc j) e =
          (l.meant.reached (a.writer x (suc k)) x (suc k) y (suc j) (written a x (suc k) (omega arith) le) ly (omega arith) (omega arith)).1.1

  pub greatest_bound : (t y : ℕ) → y < a.listed → greatest s (a.reads t) y ≤ a.newest y
  greatest_bound t y ly = go (greatest s (a.reads t) y) refl
    where
      go : (j : ℕ) → greatest s (a.reads t) y ≡ j → j ≤ a.newest y
      go zero e = omega arith
      go (suc j) e =
          let (x, k, r, c) = greatest_reached s (a.reads t) y (suc j) (omega arith) (omega arith) in
          omega (arith, entry_bound x k y (l.meant.read_listed t x k r) (l.kept.read_exists t x k r) ly)

  -- so no entry of a new stamp passes the number of a version that there then is
  pub new_entry_bound : (t y : ℕ) → y < a.listed → new_entry a s t y ≤ (after_commit a t).newest y
  new_entry_bound t y ly = go (cases_Bool (drafted (a.drafts t) y))
    where
      go : (drafted (a.drafts t) y ≡ true) ⊎ (drafted (a.drafts t) y ≡ false) → new_entry a s t y ≤ (after_commit a t).newest y
      go (inl d) =
          omega (
            arith,
            greatest_bound t y ly,
            newest_drafted a t y d,
            cond-true (drafted (a.drafts t) y) (suc (greatest s (a.reads t) y)) (greatest s (a.reads t) y) d,
          )
      go (inr d) =
          omega (
            arith,
            greatest_bound t y ly,
            newest_other a t y d,
            cond-false (drafted (a.drafts t) y) (suc (greatest s (a.reads t) y)) (greatest s (a.reads t) y) d,
          )

  -- a transaction reads one version of a card
  pub reads_once : (t x k m : ℕ) → Reads a t x k → Reads a t x m → k ≡ m
  reads_once t x k m r q =
      let lx = l.meant.read_listed t x k r in
      omega (
        arith,
        l.fitting t x k x m r q,
        l.fitting t x m x k q r,
        own_entry a s l x k lx (l.kept.read_exists t x k r),
        own_entry a s l x m lx (l.kept.read_exists t x m q),
      )

  -- a writer's number was given
  pub writer_given : (t x k : ℕ) → Writes a t x k → (0 < t) × (t ≤ a.given)
  writer_given t x k w = l.kept.done_given t (l.kept.writer_done t x k w)

-- the words that a commit gives to the versions it makes, and leaves to the others
module _ (a : Account) (t x : ℕ) where
  pub value_old : (k : ℕ) → k ≤ a.newest x → (after_commit a t).value x k ≡ a.value x k
  value_old k le = cond-false (makes a t x k) (draft_of (a.drafts t) x (a.value x k)) (a.value x k)
      (and_right (drafted (a.drafts t) x) (eqb k (suc (a.newest x))) (ne_eqb k (suc (a.newest x)) (omega arith)))

  pub value_new : (k : ℕ) → drafted (a.drafts t) x ≡ true → k ≡ suc (a.newest x)
      → (after_commit a t).value x k ≡ draft_of (a.drafts t) x (a.value x k)
  value_new k d e = cond-true (makes a t x k) (draft_of (a.drafts t) x (a.value x k)) (a.value x k)
      (and_from (drafted (a.drafts t) x) (eqb k (suc (a.newest x))) d (eq-eqb k (suc (a.newest x)) e))
