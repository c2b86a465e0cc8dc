-- The journal with the block of a commit is that of the account after it.
use Rattle.std.proofs.Common.{◌≡◌, ℕ, suc, ◌+◌, ◌<◌, ◌≤◌, true, ◌⊎◌, List, ◌++◌, length, Some, sym, ◌∙◌, subst, inl, inr, arith}
use Rattle.std.specs.List.{slice_get}
use Rattle.records.specs.declared.kind.Kind.TheVariants as kinds
use Rattle.records.specs.declared.line.Line.{Line}
use Rattle.shelf.specs.Meaning.{Meaning}
use Rattle.shelf.specs.Sound.{Sound}
use Rattle.verdicts.specs.Verdicts.{Stands, WritAt, ReadAt, Commits}
use Rattle.isolation.specs.Account.{Account, has_read, drafted, after_commit}
use Rattle.isolation.specs.AccountHistory.{Reads, Writes, WritesCard}
use Rattle.isolation.specs.Lawful.{Lawful}
use Rattle.isolation.proofs.Facts.{reads_once}
use Rattle.isolation.proofs.Lists.{some_read}
use Rattle.isolation.proofs.Committing.{wrote_old, wrote_new, Made, wrote_cases}
use Rattle.transactions.specs.State.{most_numbers}
use Rattle.transactions.specs.Choosing.{stamps_of}
use Rattle.transactions.specs.Journaled.{Writer, Named, Journaled}
use Rattle.transactions.specs.Shelved.{Shelved}
use Rattle.transactions.specs.Watched.{told}
use Rattle.transactions.proofs.Places.{nth_within, nth_cases}
use Rattle.transactions.proofs.Current.{drafted_listed}
use Rattle.transactions.proofs.Obeying.{rules_more}
use Rattle.transactions.proofs.Blocks.{named, laid_out, block_by, block_writ, block_once, block_read, has_writ, has_reads, has_done}
use Rattle.transactions.proofs.BlockRules.{block_obeys}
use Rattle.transactions.proofs.Standing.{stands_front, stands_behind, writ_front, writ_behind, read_front, read_behind, writ_cases, read_cases}
use Rattle.transactions.proofs.JournalCommit.{read_named, writer_other, fit}

module _ (a : Account) (m : Meaning) (so : Sound m) (s : Shelved a m) (l : Lawful a (stamps_of m)) (few : a.given ≤ most_numbers)
    (t : ℕ) (o : a.opened t ≡ true) (y : ℕ) (dy : drafted (a.drafts t) y ≡ true) (ls : List Line) (j : Journaled a ls) where
  -- the lines added, and the journal then
  abbrev added : List Line
  added = laid_out m (told a t) a.listed

  abbrev whole : List Line
  whole = ls ++ added

  writes_new : (x : ℕ) → drafted (a.drafts t) x ≡ true → Writes (after_commit a t) t x (suc (a.newest x))
  writes_new x d = wrote_new a t x d

  writer_old : (u : ℕ) → Writer a u → Writer (after_commit a t) u
  writer_old u (x, (k, w)) = (x, (k, wrote_old a t u x k w))

  -- a WRIT of the block is by t, of a card it drafted
  added_writ : (i u x : ℕ) → WritAt added i u x → (t ≡ u) × (drafted (a.drafts t) x ≡ true)
  added_writ i u x w = (
    sym (block_by m (told a t) a.listed i w.stands.line w.stands.at) ∙ w.stands.by,
    (block_writ m (told a t) a.listed i u x w).draft,
  )

  named_old : (x k w : ℕ) → Named a x k w → Named (after_commit a t) x k w
  named_old x k w (inl e) = inl e
  named_old x k w (inr v) = inr (wrote_old a t w x k v)

  -- a WRIT of the journal so far is of a version that there is
  old_version : (i u x k : ℕ) → WritAt ls i u x → Writes (after_commit a t) u x k → Writes a u x k
  old_version i u x k p w = go (wrote_cases a t u x k w)
    where
      go : Writes a u x k ⊎ Made a t u x k → Writes a u x k
      go (inl v) = v
      go (inr v) = absurd (writer_other a m so s l few t o u (x, j.writ i u x p) (sym v.0))

  by_writer' : (i : ℕ) (k : Line) → slice_get whole i ≡ Some k → Writer (after_commit a t) k.transaction.0
  by_writer' i k e = go (nth_cases ls added i k e)
    where
      go : (slice_get ls i ≡ Some k) ⊎ ((n : ℕ) × (i ≡ length ls + n) × (slice_get added n ≡ Some k)) → Writer (after_commit a t) k.transaction.0
      go (inl q) = writer_old k.transaction.0 (j.by_writer i k q)
      go (inr (n, p, q)) =
          subst (Writer (after_commit a t)) (sym (block_by m (told a t) a.listed n k q)) (y, (suc (a.newest y), writes_new y dy))

  done' : (u : ℕ) → Writer (after_commit a t) u → Commits whole u
  done' u (x, (k, w)) = go (wrote_cases a t u x k w)
    where
      go : Writes a u x k ⊎ Made a t u x k → Commits whole u
      go (inl v) = let (i, e) = j.done u (x, (k, v)) in (i, stands_front ls added i kinds.Done u e)
      go (inr v) =
          let (i, e) = has_done m (told a t) a.listed in
          (length ls + i, subst (λ z. Stands whole (length ls + i) kinds.Done z) v.0 (stands_behind ls added i kinds.Done t e))

  writ' : (i u x : ℕ) → WritAt whole i u x → WritesCard (after_commit a t) u x
  writ' i u x w = go (writ_cases ls added i u x w)
    where
      go : WritAt ls i u x ⊎ ((n : ℕ) × (i ≡ length ls + n) × WritAt added n u x) → WritesCard (after_commit a t) u x
      go (inl p) = let (k, v) = j.writ i u x p in (k, wrote_old a t u x k v)
      go (inr (n, e, p)) =
          let (q, d) = added_writ n u x p in
          (suc (a.newest x), subst (λ z. Writes (after_commit a t) z x (suc (a.newest x))) q (writes_new x d))

  made' : (u x k : ℕ) → Writes (after_commit a t) u x k → (i : ℕ) × WritAt whole i u x
  made' u x k w = go (wrote_cases a t u x k w)
    where
      go : Writes a u x k ⊎ Made a t u x k → (i : ℕ) × WritAt whole i u x
      go (inl v) = let (i, p) = j.made u x k v in (i, writ_front ls added i u x p)
      go (inr v) =
          let (i, p) = has_writ m (told a t) a.listed x (drafted_listed a m s l t x v.1) v.1 in
          (length ls + i, subst (λ z. WritAt whole (length ls + i) z x) v.0 (writ_behind ls added i t x p))

  once' : (i n u x : ℕ) → WritAt whole i u x → WritAt whole n u x → i ≡ n
  once' i n u x p q = go (writ_cases ls added i u x p) (writ_cases ls added n u x q)
    where
      apart : (f g : ℕ) → WritAt ls f u x → WritAt added g u x → ⊥
      apart f g v w = writer_other a m so s l few t o u (x, j.writ f u x v) (sym (added_writ g u x w).0)

      go : WritAt ls i u x ⊎ ((g : ℕ) × (i ≡ length ls + g) × WritAt added g u x)
          → WritAt ls n u x ⊎ ((g : ℕ) × (n ≡ length ls + g) × WritAt added g u x) → i ≡ n
      go (inl v) (inl w) = j.once i n u x v w
      go (inl v) (inr (g, e, w)) = absurd (apart i g v w)
      go (inr (g, e, v)) (inl w) = absurd (apart n g w v)
      go (inr (g, e, v)) (inr (f, z, w)) = omega (arith, block_once m (told a t) a.listed g f u u x v w)

  order' : (i n u v x k h : ℕ) → WritAt whole i u x → WritAt whole n v x → Writes (after_commit a t) u x k → Writes (after_commit a t) v x h
      → k < h → i < n
  order' i n u v x k h p q w z lt = go (writ_cases ls added i u x p) (writ_cases ls added n v x q)
    where
      within : (g f : ℕ) → WritAt ls g f x → g < length ls
      within g f r = nth_within ls g r.stands.line r.stands.at

      -- a version that t makes is its card's newest
      made_newest : (f g c : ℕ) → WritAt added f g x → Writes (after_commit a t) g x c → c ≡ suc (a.newest x)
      made_newest f g c r e = newest (wrote_cases a t g x c e)
        where
          newest : Writes a g x c ⊎ Made a t g x c → c ≡ suc (a.newest x)
          newest (inl b) = absurd (writer_other a m so s l few t o g (x, (c, b)) (sym (added_writ f g x r).0))
          newest (inr b) = b.2

      go : WritAt ls i u x ⊎ ((g : ℕ) × (i ≡ length ls + g) × WritAt added g u x)
          → WritAt ls n v x ⊎ ((g : ℕ) × (n ≡ length ls + g) × WritAt added g v x) → i < n
      go (inl b) (inl c) = j.order i n u v x k h b c (old_version i u x k b w) (old_version n v x h c z) lt
      go (inl b) (inr (g, e, c)) = omega (arith, within i u b)
      go (inr (g, e, b)) (inl c) = absurd (omega (arith, made_newest g u k b w, (old_version n v x h c z).1))
      go (inr (g, e, b)) (inr (f, d, c)) = absurd (omega (arith, made_newest g u k b w, made_newest f v h c z))

  read' : (i u x w : ℕ) → ReadAt whole i u x w → (k : ℕ) × Reads a u x k × Named (after_commit a t) x k w
  read' i u x w r = go (read_cases ls added i u x w r)
    where
      go : ReadAt ls i u x w ⊎ ((g : ℕ) × (i ≡ length ls + g) × ReadAt added g u x w) → (k : ℕ) × Reads a u x k × Named (after_commit a t) x k w
      go (inl p) = let (k, q, n) = j.read i u x w p in (k, q, named_old x k w n)
      go (inr (g, e, p)) =
          let (lx, h, n) = block_read m (told a t) a.listed g u x w p in
          let (k, q, c) = read_named a m so s l few t o x h in
          let by : t ≡ u = sym (block_by m (told a t) a.listed g p.stands.line p.stands.at) ∙ p.stands.by in
          (k, subst (λ z. Reads a z x k) by q, named_old x k w (subst (Named a x k) n c))

  reads' : (u x k : ℕ) → Writer (after_commit a t) u → Reads a u x k → (i : ℕ) × (w : ℕ) × ReadAt whole i u x w × Named (after_commit a t) x k w
  reads' u x k (z, (n, v)) r = go (wrote_cases a t u z n v)
    where
      go : Writes a u z n ⊎ Made a t u z n → (i : ℕ) × (w : ℕ) × ReadAt whole i u x w × Named (after_commit a t) x k w
      go (inl p) =
          let (i, w, q, c) = j.reads u x k (z, (n, p)) r in
          (i, w, read_front ls added i u x w q, named_old x k w c)
      go (inr p) =
          let q : Reads a t x k = subst (λ f. Reads a f x k) (sym p.0) r in
          let h : has_read (a.reads t) x ≡ true = some_read (a.reads t) x k q in
          let (g, b, c) = read_named a m so s l few t o x h in
          let (i, d) = has_reads m (told a t) a.listed x (l.meant.read_listed t x k q) h in (
            length ls + i,
            named m (told a t) x,
            subst (λ f. ReadAt whole (length ls + i) f x (named m (told a t) x)) p.0
                (read_behind ls added i t x (named m (told a t) x) d),
            named_old x k (named m (told a t) x)
                (subst (λ f. Named a x f (named m (told a t) x)) (reads_once a (stamps_of m) l t x g k b q) c),
          )

  committed' : (i u x w : ℕ) → ReadAt whole i u x w → (w ≡ 0) ⊎ ((g : ℕ) × (g < i) × Stands whole g kinds.Done w)
  committed' i u x w r = go (read_cases ls added i u x w r)
    where
      source : (g : ℕ) → i ≡ length ls + g → (k : ℕ) × Reads a t x k × Named a x k w → (w ≡ 0) ⊎ ((f : ℕ) × (f < i) × Stands whole f kinds.Done w)
      source g e (k, q, inl (z, n)) = inl n
      source g e (k, q, inr v) =
          let (f, d) = j.done w (x, (k, v)) in
          inr (f, omega (arith, nth_within ls f d.line d.at), stands_front ls added f kinds.Done w d)

      go : ReadAt ls i u x w ⊎ ((g : ℕ) × (i ≡ length ls + g) × ReadAt added g u x w)
          → (w ≡ 0) ⊎ ((g : ℕ) × (g < i) × Stands whole g kinds.Done w)
      go (inl p) = old (j.committed i u x w p)
        where
          old : (w ≡ 0) ⊎ ((g : ℕ) × (g < i) × Stands ls g kinds.Done w) → (w ≡ 0) ⊎ ((g : ℕ) × (g < i) × Stands whole g kinds.Done w)
          old (inl e) = inl e
          old (inr (g, lt, d)) = inr (g, lt, stands_front ls added g kinds.Done w d)
      go (inr (g, e, p)) =
          let (lx, h, n) = block_read m (told a t) a.listed g u x w p in
          let (k, q, c) = read_named a m so s l few t o x h in
          source g e (k, q, subst (Named a x k) n c)

  pub journal_grows : Journaled (after_commit a t) (ls ++ laid_out m (told a t) a.listed)
  journal_grows = record {
    by_writer = by_writer';
    done = done';
    writ = writ';
    made = made';
    once = once';
    order = order';
    read = read';
    reads = reads';
    lines = rules_more ls added j.lines (block_obeys ls m (told a t) a.listed (fit a m so s l few t o ls j));
    committed = committed';
  }
