-- A commit whose drafted cards stand at the versions read keeps the account lawful.
use Rattle.std.proofs.Common.{◌≡◌, ℕ, suc, ◌<◌, ◌≤◌, true, false, ◌⊎◌, sym, ◌∙◌, subst, inl, inr, arith}
use Rattle.std.proofs.lemmas.Bool.{cases_lt, cases_Bool, cond-true, cond-false}
use Rattle.isolation.specs.History.{Depends}
use Rattle.isolation.specs.Account.{Account, drafted, after_commit, at_one}
use Rattle.isolation.specs.AccountHistory.{Reads, Writes, WritesCard, history}
use Rattle.isolation.specs.Vectors.{Stamps, Vectors, greatest}
use Rattle.isolation.specs.Lawful.{Follows, Meant, Kept, Lawful, Current, Extends}
use Rattle.isolation.proofs.Chains.{silent_undepended}
use Rattle.isolation.proofs.Counts.{counted_depends, depends_counted}
use Rattle.isolation.proofs.Lists.{at_one_here, at_one_there, greatest_bounds, greatest_reached}
use Rattle.isolation.proofs.Alike.{written_alike, reads_alike, zeros_alike, fitting_alike}
use Rattle.isolation.proofs.Steps.{set_true, set_false}
use Rattle.isolation.proofs.Reading.{open_silent, own_entry}
use Rattle.isolation.proofs.Committing.{newest_grows, wrote_old, wrote_new, Made, wrote_cases, commit_forth, follows_forth, follows_back}

module _ (a : Account) (s : Stamps) (l : Lawful a s) (t : ℕ) (o : a.opened t ≡ true)
    (c : Current a t) (s' : Stamps) (e : Extends a s t s') where
  drafted_listed : (x : ℕ) → drafted (a.drafts t) x ≡ true → x < a.listed
  drafted_listed x d = l.meant.read_listed t x (a.newest x) (c x d)

  -- the greatest entry read at a drafted card is the version read of it
  greatest_drafted : (x : ℕ) → drafted (a.drafts t) x ≡ true → greatest s (a.reads t) x ≡ a.newest x
  greatest_drafted x d = go (cases_lt (a.newest x) (greatest s (a.reads t) x))
    where
      least : a.newest x ≤ greatest s (a.reads t) x
      least = omega (arith, own_entry a s l x (a.newest x) (drafted_listed x d) (omega arith), greatest_bounds s (a.reads t) x (a.newest x) x (c x d))

      go : (a.newest x < greatest s (a.reads t) x) ⊎ (greatest s (a.reads t) x ≤ a.newest x) → greatest s (a.reads t) x ≡ a.newest x
      go (inl lt) =
          let (z, k, r, q) = greatest_reached s (a.reads t) x (suc (a.newest x)) (omega arith) lt in
          absurd (omega (arith, l.fitting t z k x (a.newest x) r (c x d)))
      go (inr le) = omega (arith, least)

  -- the new stamp, at a card drafted and at another
  new_drafted : (u x k y : ℕ) → Made a t u x k → y < a.listed → drafted (a.drafts t) y ≡ true → s' x k y ≡ suc (greatest s (a.reads t) y)
  new_drafted u x k y m ly d =
      subst (λ j. s' x j y ≡ suc (greatest s (a.reads t) y)) (sym m.2)
      (e.new x y m.1 ly ∙ cond-true (drafted (a.drafts t) y) (suc (greatest s (a.reads t) y)) (greatest s (a.reads t) y) d)

  new_other : (u x k y : ℕ) → Made a t u x k → y < a.listed → drafted (a.drafts t) y ≡ false → s' x k y ≡ greatest s (a.reads t) y
  new_other u x k y m ly d =
      subst (λ j. s' x j y ≡ greatest s (a.reads t) y) (sym m.2)
      (e.new x y m.1 ly ∙ cond-false (drafted (a.drafts t) y) (suc (greatest s (a.reads t) y)) (greatest s (a.reads t) y) d)

  new_least : (u x k y : ℕ) → Made a t u x k → y < a.listed → greatest s (a.reads t) y ≤ s' x k y
  new_least u x k y m ly = go (cases_Bool (drafted (a.drafts t) y))
    where
      go : (drafted (a.drafts t) y ≡ true) ⊎ (drafted (a.drafts t) y ≡ false) → greatest s (a.reads t) y ≤ s' x k y
      go (inl d) = omega (arith, new_drafted u x k y m ly d)
      go (inr d) = omega (arith, new_other u x k y m ly d)

  -- stamps of versions written before, and read, are as they were
  old_entry : (u x k y : ℕ) → Writes a u x k → y < a.listed → s' x k y ≡ s x k y
  old_entry = written_alike a s l s' e.old

  old_greatest : (u y : ℕ) → y < a.listed → greatest s' (a.reads u) y ≡ greatest s (a.reads u) y
  old_greatest = reads_alike a s l s' e.old

  -- an earlier writer is another than t
  writer_other : (u x k : ℕ) → Writes a u x k → t ≡ u → ⊥
  writer_other u x k w q = open_silent a l.kept t o x k (subst (λ v. Writes a v x k) (sym q) w)

  own' : (u x k : ℕ) → Writes a u x k ⊎ Made a t u x k → s' x k x ≡ k
  own' u x k (inl w) = old_entry u x k x w (l.meant.wrote_listed u x k w) ∙ l.meant.own u x k w
  own' u x k (inr m) = omega (arith, new_drafted u x k x m (drafted_listed x m.1) m.1, greatest_drafted x m.1, m.2)

  reached' : (u x n y k : ℕ) → Writes a u x n ⊎ Made a t u x n → y < a.listed → 0 < k → k ≤ s' x n y
      → (v : ℕ) × Writes (after_commit a t) v y k × Follows (history (after_commit a t)) u v
  reached' u x n y k (inl w) ly p le =
      let (v, i, f) = l.meant.reached u x n y k w ly p (omega (arith, old_entry u x n y w ly)) in
      (v, wrote_old a t v y k i, follows_forth a l.kept t f)
  reached' u x n y k (inr m) ly p le = go (cases_Bool (drafted (a.drafts t) y)) (cases_lt (greatest s (a.reads t) y) k)
    where
      Found : Type 0
      Found = (v : ℕ) × Writes (after_commit a t) v y k × Follows (history (after_commit a t)) u v

      read : k ≤ greatest s (a.reads t) y → Found
      read q =
          let (z, j, r, b) = greatest_reached s (a.reads t) y k p q in
          let (v, w, d) = counted_depends (history a) a.listed s l.meant t z j y k r ly p b in
          (v, wrote_old a t v y k w, inr (commit_forth a l.kept t (subst (λ z. Depends (history a) z v) m.0 d)))

      go : (drafted (a.drafts t) y ≡ true) ⊎ (drafted (a.drafts t) y ≡ false)
          → (greatest s (a.reads t) y < k) ⊎ (k ≤ greatest s (a.reads t) y) → Found
      go d (inr q) = read q
      go (inl d) (inl lt) =
          let q : suc (a.newest y) ≡ k = omega (arith, new_drafted u x n y m ly d, greatest_drafted y d) in
          (t, subst (λ j. Writes (after_commit a t) t y j) q (wrote_new a t y d), inl (sym m.0))
      go (inr d) (inl lt) = absurd (omega (arith, new_other u x n y m ly d))

  reaches' : (u v x n y k : ℕ) → Writes a u x n ⊎ Made a t u x n → Writes a v y k ⊎ Made a t v y k → Follows (history a) u v → k ≤ s' x n y
  reaches' u v x n y k (inl w) (inl i) f =
      omega (arith, l.meant.reaches u v x n y k w i f, old_entry u x n y w (l.meant.wrote_listed v y k i))
  reaches' u v x n y k (inl w) (inr m) (inl q) = absurd (writer_other u x n w (m.0 ∙ sym q))
  reaches' u v x n y k (inl w) (inr m) (inr d) =
      absurd (silent_undepended (open_silent a l.kept t o) (subst (Depends (history a) u) (sym m.0) d))
  reaches' u v x n y k (inr m) (inl i) (inl q) = absurd (writer_other v y k i (m.0 ∙ q))
  reaches' u v x n y k (inr m) (inl i) (inr d) =
      let (z, j, r, b) = depends_counted (history a) a.listed s l.meant t v y k (subst (λ w. Depends (history a) w v) (sym m.0) d) i in
      omega (arith, greatest_bounds s (a.reads t) z j y r, new_least u x n y m (l.meant.wrote_listed v y k i))
  reaches' u v x n y k (inr m) (inr i) f =
      omega (arith, new_drafted u x n y m (drafted_listed y i.1) i.1, greatest_drafted y i.1, i.2)

  commit_meant : Meant (history (after_commit a t)) a.listed s'
  commit_meant = record {
    read_listed = l.meant.read_listed;
    wrote_listed = λ u x k w. listed u x k (wrote_cases a t u x k w);
    wrote_above = λ u x k w. w.0;
    exists = λ u x k r. let (v, w) = l.meant.exists u x k r in (v, wrote_old a t v x (suc k) w);
    sole = λ u v x k w i. sym w.2 ∙ i.2;
    chain = λ u x k w. chain u x k (wrote_cases a t u x (suc k) w);
    zeros = zeros_alike a s l s' e.old;
    own = λ u x k w. own' u x k (wrote_cases a t u x k w);
    reached = λ u x n y k w ly p q. reached' u x n y k (wrote_cases a t u x n w) ly p q;
    reaches = λ u v x n y k w i f.
        reaches' u v x n y k (wrote_cases a t u x n w) (wrote_cases a t v y k i) (follows_back a l.kept t f);
  }
    where
      listed : (u x k : ℕ) → Writes a u x k ⊎ Made a t u x k → x < a.listed
      listed u x k (inl w) = l.meant.wrote_listed u x k w
      listed u x k (inr m) = drafted_listed x m.1

      chain : (u x k : ℕ) → Writes a u x (suc k) ⊎ Made a t u x (suc k) → Reads a u x k
      chain u x k (inl w) = l.meant.chain u x k w
      chain u x k (inr m) =
          let q : a.newest x ≡ k = omega (arith, m.2) in
          subst (λ v. Reads a v x k) m.0 (subst (Reads a t x) q (c x m.1))

  commit_kept : Kept (after_commit a t)
  commit_kept = record {
    open_given = λ u q. l.kept.open_given u (set_false a.opened t u q).1;
    open_undone = λ u q.
        let (ne, b) = set_false a.opened t u q in
        at_one_there a.committed t true u ne ∙ l.kept.open_undone u b;
    done_given = λ u q. done u (set_true a.committed t u q);
    read_given = l.kept.read_given;
    read_exists = λ u x k r. omega (arith, l.kept.read_exists u x k r, newest_grows a t x);
    drafted_read = l.kept.drafted_read;
    writer_done = λ u x k w. writer u x k (wrote_cases a t u x k w);
  }
    where
      done : (u : ℕ) → (u ≡ t) ⊎ (a.committed u ≡ true) → (0 < u) × (u ≤ a.given)
      done u (inl q) = subst (λ v. (0 < v) × (v ≤ a.given)) (sym q) (l.kept.open_given t o)
      done u (inr q) = l.kept.done_given u q

      writer : (u x k : ℕ) → Writes a u x k ⊎ Made a t u x k → at_one a.committed t true u ≡ true
      writer u x k (inl w) = at_one_there a.committed t true u (λ q. writer_other u x k w (sym q)) ∙ l.kept.writer_done u x k w
      writer u x k (inr m) = at_one_here a.committed t true u (sym m.0)

  -- the new stamps satisfy the equations
  card_back : (u y : ℕ) → (t ≡ u → ⊥) → WritesCard (after_commit a t) u y → WritesCard a u y
  card_back u y ne (k, w) = go (wrote_cases a t u y k w)
    where
      go : Writes a u y k ⊎ Made a t u y k → WritesCard a u y
      go (inl i) = (k, i)
      go (inr m) = absurd (ne m.0)

  card_drafted : (u y : ℕ) → t ≡ u → WritesCard (after_commit a t) u y → drafted (a.drafts t) y ≡ true
  card_drafted u y q (k, w) = go (wrote_cases a t u y k w)
    where
      go : Writes a u y k ⊎ Made a t u y k → drafted (a.drafts t) y ≡ true
      go (inl i) = absurd (writer_other u y k i q)
      go (inr m) = m.1

  commit_vectors : Vectors (after_commit a t) s'
  commit_vectors = record {
    first = zeros_alike a s l s' e.old;
    writing = λ u x k y w ly q. writing u x k y ly q (wrote_cases a t u x k w);
    reading = λ u x k y w ly q. reading u x k y ly q (wrote_cases a t u x k w);
  }
    where
      writing : (u x k y : ℕ) → y < a.listed → WritesCard (after_commit a t) u y → Writes a u x k ⊎ Made a t u x k
          → s' x k y ≡ suc (greatest s' (a.reads u) y)
      writing u x k y ly q (inl w) =
          omega (
            arith,
            old_entry u x k y w ly,
            old_greatest u y ly,
            l.vectors.writing u x k y w ly (card_back u y (writer_other u x k w) q),
          )
      writing u x k y ly q (inr m) =
          subst (λ v. s' x k y ≡ suc (greatest s' (a.reads v) y)) m.0
          (omega (arith, new_drafted u x k y m ly (card_drafted u y m.0 q), old_greatest t y ly))

      reading : (u x k y : ℕ) → y < a.listed → (WritesCard (after_commit a t) u y → ⊥) → Writes a u x k ⊎ Made a t u x k
          → s' x k y ≡ greatest s' (a.reads u) y
      reading u x k y ly q (inl w) =
          omega (
            arith,
            old_entry u x k y w ly,
            old_greatest u y ly,
            l.vectors.reading u x k y w ly (λ b. q (b.0, wrote_old a t u y b.0 b.1)),
          )
      reading u x k y ly q (inr m) = go (cases_Bool (drafted (a.drafts t) y))
        where
          go : (drafted (a.drafts t) y ≡ true) ⊎ (drafted (a.drafts t) y ≡ false) → s' x k y ≡ greatest s' (a.reads u) y
          go (inl d) = absurd (q (suc (a.newest y), subst (λ v. Writes (after_commit a t) v y (suc (a.newest y))) m.0 (wrote_new a t y d)))
          go (inr d) =
              subst (λ v. s' x k y ≡ greatest s' (a.reads v) y) m.0 (omega (arith, new_other u x k y m ly d, old_greatest t y ly))

  pub commit_lawful : Lawful (after_commit a t) s'
  commit_lawful = record {
    meant = commit_meant;
    fitting = fitting_alike a s l s' e.old;
    kept = commit_kept;
    vectors = commit_vectors;
  }
