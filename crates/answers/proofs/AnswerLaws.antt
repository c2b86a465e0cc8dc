-- The judge's three answers are right.
use Rattle.std.proofs.Common.{◌≡◌, ℕ, suc, ◌<◌, Bool, true, false, ◌&&◌, eqb, ltb, List, length, Decides, sym, refl, ap, ◌∙◌, inl, inr, arith}
use Rattle.std.proofs.lemmas.Bool.{cases_lt, and_parts, and_from, eqb-true, eq-eqb, ltb-true, lt-ltb, both_ways}
use Rattle.isolation.specs.History.{ConsistentSnapshots}
use Rattle.reach.specs.Paths.{Marked}
use Rattle.records.specs.declared.kind.Kind.TheVariants.{Read, Writ}
use Rattle.records.specs.declared.line.Line.{Line}
use Rattle.digest.specs.declared.entry.Entry.{Entry}
use Rattle.answers.specs.Questions.{Towards}
use Rattle.rules.specs.Rules.{is_read, is_writ}
use Rattle.digest.specs.Entries.{at, newer, Sound}
use Rattle.answers.specs.Questions.{some_below, marked, outdated, stale, steps, Owner, Snapshot, Snapshots}
use Rattle.verdicts.specs.Verdicts.{history_of}
use Rattle.answers.proofs.TestLaws.{decides_some, some_hit}
use Rattle.digest.proofs.FactLaws.{Facts}
use Rattle.answers.proofs.HistoryLaws.{kind_read, kind_writ, reads_entry, writes_entry, entry_reads, entry_writes}
use Rattle.answers.proofs.PathLaws.{depends_forward, forward_depends}

-- a number below n that passes the test
pub some_found : (p : ℕ → Bool) (n : ℕ) → some_below p n ≡ true → (k : ℕ) × (k < n) × (p k ≡ true)
some_found p n h = (decides_some p (λ k. p k ≡ true) (λ k. ((λ e. e), λ e. e)) n).0 h

pub owner_of : (es : List Entry) → Sound es → (i : ℕ) → i < length es → Owner es (at es i).owner
owner_of es s i lt = (omega (arith, s.owner i lt), s.itself i lt)

-- entry j writes a newer version of the card than entry i reads, and its transaction is marked
pub record Newer (es : List Entry) (ms : List ℕ) (i j : ℕ) : Type 0 where
  pub reader : i < length es
  pub writer : j < length es
  pub reads : (at es i).kind ≡ Read
  pub writes : (at es j).kind ≡ Writ
  pub card : (at es j).card.0 ≡ (at es i).card.0
  pub newer : (at es i).version < (at es j).version
  pub marked : Marked ms (at es j).owner

stale_found : (es : List Entry) (ms : List ℕ) (o : ℕ) → stale es ms o ≡ true → (i : ℕ) × (j : ℕ) × ((at es i).owner ≡ o) × Newer es ms i j
stale_found es ms o h =
    let (i, lt, p) = some_found _ _ h in
    let (front, out) = and_parts (is_read (at es i).kind && eqb (at es i).owner o) (outdated es ms (at es i)) p in
    let (r, own) = and_parts (is_read (at es i).kind) (eqb (at es i).owner o) front in
    let (j, less, q) = some_found _ _ out in
    let (n, mk) = and_parts (newer (at es j) (at es i)) (marked ms (at es j).owner) q in
    let (wc, v) = and_parts (is_writ (at es j).kind && eqb (at es j).card.0 (at es i).card.0) (ltb (at es i).version (at es j).version) n in
    let (w, c) = and_parts (is_writ (at es j).kind) (eqb (at es j).card.0 (at es i).card.0) wc in (
      i,
      j,
      eqb-true _ _ own,
      record {
        reader = lt;
        writer = less;
        reads = kind_read (at es i).kind r;
        writes = kind_writ (at es j).kind w;
        card = eqb-true _ _ c;
        newer = ltb-true _ _ v;
        marked = ltb-true _ _ mk;
      },
    )

stale_hit : (es : List Entry) (ms : List ℕ) (i j : ℕ) → Newer es ms i j → stale es ms (at es i).owner ≡ true
stale_hit es ms i j n =
    let new = and_from _ _ (and_from _ _ (ap is_writ n.writes) (eq-eqb _ _ n.card)) (lt-ltb _ _ n.newer) in
    let out : outdated es ms (at es i) ≡ true = some_hit _ (length es) j n.writer (and_from _ _ new (lt-ltb _ _ n.marked)) in
    some_hit _ (length es) i n.reader (and_from _ _ (and_from _ _ (ap is_read n.reads) (eq-eqb _ _ refl)) out)

module _ (ls : List Line) (es : List Entry) (f : Facts ls es) (s : Sound es) where
  snapshot_good : ((o : ℕ) → o < length es → (at es o).owner ≡ o → Snapshot es (steps Towards.Writers es (length es)) (length es) o false) → ConsistentSnapshots (history_of ls)
  snapshot_good all t u x k n read dep wrote =
      let (i, v) = reads_entry ls es f s t x k read in
      let (j, e, w) = writes_entry ls es f s u x n wrote in
      let own = owner_of es s i v.entry.inside in
      let snap = all (at es i).owner own.0 own.1 in
      let path = depends_forward ls es f s (length snap.marks) snap.long dep i j v.entry.inside w.entry.inside v.entry.by w.entry.by in
      let mark = snap.reached.complete (at es j).owner path in
      elim (cases_lt k n) [
        | inl less ↦ absurd (both_ways _ snap.tells (stale_hit es snap.marks i j (record {
          reader = v.entry.inside;
          writer = w.entry.inside;
          reads = v.entry.kind;
          writes = w.entry.kind;
          card = w.card ∙ sym v.card;
          newer = omega (arith, v.version, w.version);
          marked = mark;
        })))
        | inr fine ↦ fine
      ]

  snapshot_bad : (o : ℕ) → Snapshot es (steps Towards.Writers es (length es)) (length es) o true → ConsistentSnapshots (history_of ls) → ⊥
  snapshot_bad o snap all =
      let (i, j, own, n) = stale_found es snap.marks o snap.tells in
      let path = snap.reached.sound (at es j).owner n.marked in
      let dep = forward_depends ls es f s (length snap.marks) snap.long path i j n.reader n.writer own refl in
      let read = entry_reads ls es f s i (at es i).transaction.0 (at es i).card.0 (at es i).version
      (record { entry = record { inside = n.reader; kind = n.reads; by = refl }; card = refl; version = refl }) in
      let wrote = entry_writes ls es f s j (at es j).transaction.0 (at es i).card.0 (at es j).version
      (record { entry = record { inside = n.writer; kind = n.writes; by = refl }; card = n.card; version = refl }) in
      let old = all (at es i).transaction.0 (at es j).transaction.0 (at es i).card.0 (at es i).version (suc j) read dep wrote in
      omega (arith, n.newer, f.writ j n.writer n.writes)

  pub snapshots_decide : (r : Bool) → Snapshots es (steps Towards.Writers es (length es)) (length es) (length es) r → Decides r (ConsistentSnapshots (history_of ls))
  snapshots_decide true h = ((λ e. snapshot_good h), λ p. refl)
  snapshots_decide false (o, own, snap) = ((λ e. absurd (both_ways false refl e)), λ p. absurd (snapshot_bad o snap p))
