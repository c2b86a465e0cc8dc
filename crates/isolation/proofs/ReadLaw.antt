-- The law of reads: a first read of a version that fits keeps the account lawful, fitting is consistency, something always fits.
use Rattle.std.proofs.Common.{◌≡◌, ℕ, zero, suc, ◌<◌, ◌≤◌, true, false, ◌⊎◌, sym, refl, subst, inl, inr, arith}
use Rattle.std.proofs.lemmas.Bool.{cases_eq, cases_Bool, cond-true, cond-false}
use Rattle.isolation.specs.History.{Consistent}
use Rattle.isolation.specs.Account.{Account, has_read, enter_read, after_read}
use Rattle.isolation.specs.AccountHistory.{Reads, Writes, history}
use Rattle.isolation.specs.Vectors.{Stamps, greatest}
use Rattle.isolation.specs.Lawful.{Lawful, Fitting, Fits, NewestFit}
use Rattle.isolation.proofs.Counts.{fitting_consistent, counted_below}
use Rattle.isolation.proofs.Lists.{at_one_there, greatest_bounds, greatest_reached}
use Rattle.isolation.proofs.Reading.{with_read, written, writer_other, entered_old, entered_there, entered_cases, entered_listed}
use Rattle.isolation.proofs.Reading.{read_meant, fits_fitting, entered_consistent, entered_fits}

-- a first read enters the version, and a later one changes nothing
pub first_read : (a : Account) (t x n : ℕ) → has_read (a.reads t) x ≡ false → after_read a t x n ≡ enter_read a t x n
first_read a t x n e = cond-false (has_read (a.reads t) x) a (enter_read a t x n) e

pub later_read : (a : Account) (t x n : ℕ) → has_read (a.reads t) x ≡ true → after_read a t x n ≡ a
later_read a t x n e = cond-true (has_read (a.reads t) x) a (enter_read a t x n) e

module _ (a : Account) (s : Stamps) (l : Lawful a s) (t x n : ℕ) (o : a.opened t ≡ true) (lx : x < a.listed) (le : n ≤ a.newest x) where
  entered_lawful : Fits a s t x n → Lawful (enter_read a t x n) s
  entered_lawful f = record {
    meant = read_meant a s l t x n o lx le;
    fitting = λ u. all u (cases_eq u t);
    kept = record {
      open_given = l.kept.open_given;
      open_undone = l.kept.open_undone;
      done_given = l.kept.done_given;
      read_given = λ u y m r. given u y m (entered_cases a t x n u y m r);
      read_exists = λ u y m r. (entered_listed a s l t x n o lx le u y m (entered_cases a t x n u y m r)).1;
      drafted_read = λ u y e. let (k, r) = l.kept.drafted_read u y e in (k, entered_old a t x n u y k r);
      writer_done = l.kept.writer_done;
    };
    vectors = record {
      first = l.vectors.first;
      writing = λ u y k z w lz c. same_reads u y k z w (λ g. s y k z ≡ suc g) (l.vectors.writing u y k z w lz c);
      reading = λ u y k z w lz c. same_reads u y k z w (λ g. s y k z ≡ g) (l.vectors.reading u y k z w lz c);
    };
  }
    where
      all : (u : ℕ) → (u ≡ t) ⊎ (u ≡ t → ⊥) → Fitting (history (enter_read a t x n)) s u
      all u (inl e) = subst (Fitting (history (enter_read a t x n)) s) (sym e) (fits_fitting a s l t x n o lx le f)
      all u (inr ne) = λ y m z j r q.
          l.fitting u y m z j (entered_there a t x n u y m ne r) (entered_there a t x n u z j ne q)

      given : (u y m : ℕ) → Reads a u y m ⊎ ((t ≡ u) × (x ≡ y) × (n ≡ m)) → (0 < u) × (u ≤ a.given)
      given u y m (inl r) = l.kept.read_given u y m r
      given u y m (inr e) = subst (λ w. (0 < w) × (w ≤ a.given)) e.0 (l.kept.open_given t o)

      same_reads : (u y k z : ℕ) → Writes a u y k → (P : ℕ → Type 0)
          → P (greatest s (a.reads u) z) → P (greatest s ((enter_read a t x n).reads u) z)
      same_reads u y k z w P p =
          subst (λ rs. P (greatest s rs z))
          (sym (at_one_there a.reads t (with_read a t x n) u (writer_other a s l t x n o lx le u y k w))) p

  -- a read keeps the account lawful, where a first one is of a version that fits
  pub read_lawful : (has_read (a.reads t) x ≡ false → Fits a s t x n) → Lawful (after_read a t x n) s
  read_lawful f = go (cases_Bool (has_read (a.reads t) x))
    where
      go : (has_read (a.reads t) x ≡ true) ⊎ (has_read (a.reads t) x ≡ false) → Lawful (after_read a t x n) s
      go (inl e) = subst (λ b. Lawful b s) (sym (later_read a t x n e)) l
      go (inr e) = subst (λ b. Lawful b s) (sym (first_read a t x n e)) (entered_lawful (f e))

  -- a version fits exactly when a first read of it keeps the snapshot consistent
  pub fits_consistent : has_read (a.reads t) x ≡ false → Fits a s t x n → Consistent (history (after_read a t x n)) t
  fits_consistent e f =
      subst (λ b. Consistent (history b) t) (sym (first_read a t x n e)) (entered_consistent a s l t x n o lx le f)

  pub consistent_fits : has_read (a.reads t) x ≡ false → Consistent (history (after_read a t x n)) t → Fits a s t x n
  consistent_fits e c = entered_fits a s l t x n o lx le (subst (λ b. Consistent (history b) t) (first_read a t x n e) c)

-- so every version newer than the newest that fits breaks the snapshot
pub newer_breaks : (a : Account) (s : Stamps) → Lawful a s → (t x n m : ℕ) → a.opened t ≡ true → x < a.listed
    → has_read (a.reads t) x ≡ false → NewestFit a s t x n → n < m → m ≤ a.newest x
    → Consistent (history (after_read a t x m)) t → ⊥
newer_breaks a s l t x n m o lx e f lt le c = f.newest m lt le (consistent_fits a s l t x m o lx le e c)

-- whatever t has read, some version of a listed card fits it
pub some_fits : (a : Account) (s : Stamps) → Lawful a s → (t x : ℕ) → x < a.listed → (n : ℕ) × (n ≤ a.newest x) × Fits a s t x n
some_fits a s l t x lx = go (greatest s (a.reads t) x) refl
  where
    above : (n : ℕ) → greatest s (a.reads t) x ≡ n → (y m : ℕ) → Reads a t y m → s y m x ≤ n
    above n e y m r = omega (arith, greatest_bounds s (a.reads t) y m x r)

    -- the greatest entry n is that of version k of z, which t read
    from : (n : ℕ) → greatest s (a.reads t) x ≡ suc n → (z k : ℕ) → Reads a t z k → suc n ≤ s z k x
        → (n : ℕ) × (n ≤ a.newest x) × Fits a s t x n
    from n e z zero r c = absurd (omega (arith, l.meant.zeros z x (l.meant.read_listed t z zero r) lx))
    from n e z (suc k) r c =
        let w : Writes a (a.writer z (suc k)) z (suc k) = written a z (suc k) (omega arith) (l.kept.read_exists t z (suc k) r) in
        let (v, i, f) = l.meant.reached (a.writer z (suc k)) z (suc k) x (suc n) w lx (omega arith) c in (
          suc n,
          i.1,
          λ y m q.
              let ly = l.meant.read_listed t y m q in
              let b = counted_below (history a) a.listed s l.meant (a.writer z (suc k)) z (suc k) x (suc n) y w lx (omega arith) c ly in
              let d = l.fitting t z (suc k) y m r q in
              (omega arith, above (suc n) e y m q),
        )

    go : (n : ℕ) → greatest s (a.reads t) x ≡ n → (n : ℕ) × (n ≤ a.newest x) × Fits a s t x n
    go zero e = (zero, omega arith, λ y m r. (omega (arith, l.meant.zeros x y lx (l.meant.read_listed t y m r)), above zero e y m r))
    go (suc n) e =
        let (z, k, r, c) = greatest_reached s (a.reads t) x (suc n) (omega arith) (omega arith) in
        from n e z k r c

-- every transaction's snapshot is consistent, open or ended
pub lawful_consistent : (a : Account) (s : Stamps) → Lawful a s → (t : ℕ) → Consistent (history a) t
lawful_consistent a s l t = fitting_consistent (history a) a.listed s l.meant t (l.fitting t)

-- and what it read is version 0, or a version that a committed transaction wrote
pub lawful_committed : (a : Account) (s : Stamps) → Lawful a s → (t x k : ℕ) → Reads a t x k
    → (k ≤ a.newest x) × ((k ≡ 0) ⊎ (a.committed (a.writer x k) ≡ true))
lawful_committed a s l t x zero r = (omega arith, inl refl)
lawful_committed a s l t x (suc k) r =
    let le = l.kept.read_exists t x (suc k) r in
    (le, inr (l.kept.writer_done (a.writer x (suc k)) x (suc k) (written a x (suc k) (omega arith) le)))
