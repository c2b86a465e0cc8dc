-- Of a lawful account's journal, what the judge is asked holds.
use Rattle.std.proofs.Common.{◌≡◌, ℕ, suc, ◌≤◌, ◌⊎◌, List, sym, refl, ap, ◌∙◌, subst, inl, inr, arith}
use Rattle.std.proofs.lemmas.Bool.{cases_eq}
use Rattle.records.specs.declared.line.Line.{Line}
use Rattle.verdicts.specs.Verdicts.{WritAt, ReadAt, VersionBy, history_of}
use Rattle.isolation.specs.History.{History, ReadsFrom, Depends, Consistent, Clash}
use Rattle.isolation.specs.History.Depends.{one, more}
use Rattle.isolation.specs.Account.{Account}
use Rattle.isolation.specs.AccountHistory.{Reads, Writes, WritesCard, history}
use Rattle.isolation.specs.Vectors.{Stamps}
use Rattle.isolation.specs.Lawful.{Lawful}
use Rattle.isolation.proofs.Facts.{writer_given}
use Rattle.isolation.proofs.ReadLaw.{lawful_consistent}
use Rattle.isolation.proofs.Conflict.{lawful_clash_free}
use Rattle.transactions.specs.Journaled.{Writer, Named, Journaled}
use Rattle.transactions.specs.Journal.{JudgedClean}
use Rattle.transactions.proofs.Places.{some_same}

-- chains, where each step from one of P leads to one of P
carried : (h k : History) (P : ℕ → Type 0) → ((u v : ℕ) → P u → ReadsFrom h u v → ReadsFrom k u v × P v)
    → {u v : ℕ} → P u → Depends h u v → Depends k u v
carried h k P step {u} p (one {u = v} r) = one (step u v p r).0
carried h k P step {u} p (more {u = v} r d) = let (q, w) = step u v p r in more q (carried h k P step w d)

-- one WRIT at a place
writ_by : (ls : List Line) (j t u x y : ℕ) → WritAt ls j t x → WritAt ls j u y → t ≡ u
writ_by ls j t u x y p q =
    sym p.stands.by ∙ ap (λ (l : Line). l.transaction.0) (some_same (sym p.stands.at ∙ q.stands.at)) ∙ q.stands.by

module _ (a : Account) (s : Stamps) (l : Lawful a s) (ls : List Line) (b : Journaled a ls) where
  -- nobody is no writer
  somebody : (t x k : ℕ) → Writes a t x k → t ≡ 0 → ⊥
  somebody t x k w e = omega (arith, writer_given a s l t x k w)

  -- a version read that has a WRIT was written in the account too, by the same transaction
  read_written : (i j t u x w k : ℕ) → ReadAt ls i t x w → VersionBy ls w x k → k ≡ suc j → WritAt ls j u x
      → (n : ℕ) × Reads a t x n × Writes a u x n
  read_written i j t u x w k r (inl (e, z)) q p = absurd (omega arith)
  read_written i j t u x w k r (inr (v, z, o)) q p =
      let (n, h, c) = b.read i t x w r in
      let y : j ≡ v = omega arith in
      let same : w ≡ u = writ_by ls v w u x x o (subst (λ z. WritAt ls z u x) y p) in
      (n, h, subst (λ z. Writes a z x n) same (named n c (b.writ v w x o)))
    where
      named : (n : ℕ) → Named a x n w → WritesCard a w x → Writes a w x n
      named n (inl (e, f)) (m, o) = absurd (somebody w x m o f)
      named n (inr o) m = o

  step_down : (t u : ℕ) → Unit {0} → ReadsFrom (history_of ls) t u → ReadsFrom (history a) t u × Unit {0}
  step_down t u p r =
      let (i, w, q, v) = r.read in
      let (j, e, o) = r.wrote in
      let (n, h, y) = read_written i j t u r.card w r.version q v e o in
      (record { card = r.card; version = n; read = h; wrote = y }, tt)

  depends_down : {t u : ℕ} → Depends (history_of ls) t u → Depends (history a) t u
  depends_down d = carried (history_of ls) (history a) (λ z. Unit {0}) step_down tt d

  step_up : (t u : ℕ) → Writer a t → ReadsFrom (history a) t u → ReadsFrom (history_of ls) t u × Writer a u
  step_up t u p r =
      let (i, w, q, c) = b.reads t r.card r.version p r.read in
      let (j, o) = b.made u r.card r.version r.wrote in
      let same : u ≡ w = named w c in (
        record {
          card = r.card;
          version = suc j;
          read = (i, w, q, inr (j, refl, subst (λ z. WritAt ls j z r.card) same o));
          wrote = (j, refl, o);
        },
        (r.card, (r.version, r.wrote)),
      )
    where
      named : (w : ℕ) → Named a r.card r.version w → u ≡ w
      named w (inl (e, f)) = absurd (omega (arith, r.wrote.0))
      named w (inr o) = sym r.wrote.2 ∙ o.2

  depends_up : {t u : ℕ} → Writer a t → Depends (history a) t u → Depends (history_of ls) t u
  depends_up p d = carried (history a) (history_of ls) (Writer a) step_up p d

  -- places keep the order of versions
  in_order : (i j t u x k n : ℕ) → WritAt ls i t x → WritAt ls j u x → Writes a t x k → Writes a u x n → k ≤ n → i ≤ j
  in_order i j t u x k n p q v w le = go (cases_eq k n)
    where
      go : (k ≡ n) ⊎ (k ≡ n → ⊥) → i ≤ j
      go (inl e) =
          let same : u ≡ t = sym w.2 ∙ ap (a.writer x) (sym e) ∙ v.2 in
          let y : i ≡ j = b.once i j t x p (subst (λ z. WritAt ls j z x) same q) in
          omega arith
      go (inr ne) = omega (arith, b.order i j t u x k n p q v w (omega arith))

  snapshots : (t : ℕ) → Consistent (history_of ls) t
  snapshots t u x k n (i, w, r, v) d (j, e, o) = go (b.writ j u x o) (b.read i t x w r) v
    where
      older : (p q : ℕ) → Reads a t x q → Writes a u x p → p ≤ q
      older p q r y = lawful_consistent a s l t u x q p r (depends_down d) y

      go : WritesCard a u x → (q : ℕ) × Reads a t x q × Named a x q w → VersionBy ls w x k → n ≤ k
      go (p, y) (q, h, inl (z, f)) v = absurd (omega (arith, y.0, older p q h y))
      go (p, y) (q, h, inr c) (inl (f, z)) = absurd (somebody w x q c f)
      go (p, y) (q, h, inr c) (inr (m, z, g)) = omega (arith, in_order j m u w x p q o g y c (older p q h y))

  unclashed : Clash (history_of ls) → ⊥
  unclashed c =
      let (i, e, p) = c.one_wrote in
      let (j, f, q) = c.other_wrote in
      go i j p q (b.writ i c.one c.card p) (b.writ j c.other c.card q)
    where
      go : (i j : ℕ) → WritAt ls i c.one c.card → WritAt ls j c.other c.card
          → WritesCard a c.one c.card → WritesCard a c.other c.card → ⊥
      go i j p q (k, v) (n, w) = lawful_clash_free a s l (record {
        one = c.one;
        other = c.other;
        two = c.two;
        one_done = l.kept.writer_done c.one c.card k v;
        other_done = l.kept.writer_done c.other c.card n w;
        card = c.card;
        one_version = k;
        other_version = n;
        one_wrote = v;
        other_wrote = w;
        apart = record {
          forth = λ d. c.apart.forth (depends_up (c.card, (k, v)) d);
          back = λ d. c.apart.back (depends_up (c.card, (n, w)) d);
        };
      })

  pub journal_clean : JudgedClean ls
  journal_clean = record { aca = b.committed; cons = snapshots; wcf = unclashed }
