-- Dependence between transactions is a path between their owners, in either graph of the reads-from steps.
use Rattle.std.proofs.Common.{◌≡◌, ℕ, suc, ◌-◌, ◌<◌, ◌≤◌, true, List, length, Some, sym, refl, ap, ◌∙◌, subst, inl, inr, arith}
use Rattle.std.specs.List.{slice_get}
use Rattle.std.proofs.lemmas.Bool.{and_from, lt-ltb}
use Rattle.isolation.specs.History.{ReadsFrom, Depends}
use Rattle.reach.specs.Paths.{Edge, Path}
use Rattle.records.specs.declared.kind.Kind.TheVariants.{Writ}
use Rattle.records.specs.declared.line.Line.{Line}
use Rattle.digest.specs.declared.entry.Entry.{Entry}
use Rattle.answers.specs.Questions.{Towards}
use Rattle.rules.specs.Rules.{is_read}
use Rattle.digest.specs.Entries.{at, is_step, Sound}
use Rattle.answers.specs.Questions.{source, steps}
use Rattle.verdicts.specs.Verdicts.{Writes, history_of}
use Rattle.answers.proofs.CommitLaws.{step_reads}
use Rattle.digest.proofs.FactLaws.{Facts, ReadsFromLine}
use Rattle.answers.proofs.HistoryLaws.{VersionAt, kind_read, reads_entry, writes_entry, entry_reads, entry_writes, wrote_entry, line_at, same_owner, same_transaction}
use Rattle.answers.proofs.DependLaws.{edge_step, step_edge, path_snoc, depends_snoc}

-- entry i reads what entry j wrote
pub record Step (es : List Entry) (i j : ℕ) : Type 0 where
  pub reader : i < length es
  pub writer : j < length es
  pub steps : is_step (at es i) ≡ true
  pub source : source es (at es i) ≡ (at es j).owner

module _ (ls : List Line) (es : List Entry) (f : Facts ls es) (s : Sound es) where
  pub reads_step : (t u : ℕ) → ReadsFrom (history_of ls) t u
      → (i : ℕ) × (j : ℕ) × Step es i j × ((at es i).transaction.0 ≡ t) × ((at es j).transaction.0 ≡ u)
  reads_step t u r =
      let (i, v) = reads_entry ls es f s t r.card r.version r.read in
      let (j, e, w) = writes_entry ls es f s u r.card r.version r.wrote in
      let back : (at es i).version - 1 ≡ j = omega (arith, v.version, e) in (
        i,
        j,
        record {
          reader = v.entry.inside;
          writer = w.entry.inside;
          steps = and_from _ _ (ap is_read v.entry.kind) (lt-ltb 0 (at es i).version (omega (arith, v.version, e)));
          source = ap (λ k. (at es k).owner) back;
        },
        v.entry.by,
        w.entry.by,
      )

  -- the entry that a step leads to, and that it is a step of the history
  found : (i : ℕ) (l : Line) → i < length es → is_read (at es i).kind ≡ true → 0 < (at es i).version → slice_get ls i ≡ Some l → ReadsFromLine es i l (at es i)
      → (j : ℕ) × (j < length es) × ((at es i).version ≡ suc j) × VersionAt es j Writ (at es j).transaction.0 (at es i).card.0 (at es i).version
  found i l lt h some at' (inl (w, v)) = absurd (omega arith)
  found i l lt h some at' (inr (j, v, less, p)) =
      let q = f.same i l at' in
      let w = wrote_entry ls es f s j l.writer.0 l.card.0 (omega arith) p in (
        j,
        w.entry.inside,
        v,
        record {
          entry = record { inside = w.entry.inside; kind = w.entry.kind; by = refl };
          card = w.card ∙ sym q.card;
          version = w.version ∙ sym v;
        },
      )

  pub step_from : (i : ℕ) → i < length es → is_step (at es i) ≡ true → (j : ℕ) × Step es i j × ReadsFrom (history_of ls) (at es i).transaction.0 (at es j).transaction.0
  step_from i lt h =
      let (reads, some) = step_reads (at es i) h in
      let kind = kind_read (at es i).kind reads in
      let (l, at') = line_at ls es f s i lt in
      let q = f.same i l at' in
      let (j, less, v, w) = found i l lt reads some at' (f.reads i l at' (sym q.kind ∙ kind)) in
      let back : (at es i).version - 1 ≡ j = omega arith in (
        j,
        record { reader = lt; writer = less; steps = h; source = ap (λ k. (at es k).owner) back },
        record {
          card = (at es i).card.0;
          version = (at es i).version;
          read = entry_reads ls es f s i (at es i).transaction.0 (at es i).card.0 (at es i).version
              (record { entry = record { inside = lt; kind = kind; by = refl }; card = refl; version = refl });
          wrote = subst (λ k. Writes ls (at es j).transaction.0 (at es i).card.0 k) (sym v)
              (entry_writes ls es f s j (at es j).transaction.0 (at es i).card.0 (at es i).version w);
        },
      )

  module _ (m : ℕ) (room : length es ≤ m) where
    low : (j : ℕ) → j < length es → (at es j).owner < m
    low j lt = omega (arith, s.owner j lt)

    -- the edge of a step, between the owners of any entries of the two transactions
    forward_edge : (i j : ℕ) → Step es i j → (i' j' : ℕ) → (at es i).owner ≡ i' → (at es j).owner ≡ j' → Edge (steps Towards.Writers es (length es)) i' j'
    forward_edge i j st i' j' a b =
        subst (λ y. Edge (steps Towards.Writers es (length es)) i' y) (st.source ∙ b)
        (subst (λ x. Edge (steps Towards.Writers es (length es)) x (source es (at es i))) a (step_edge Towards.Writers es (length es) i st.reader st.steps))

    backward_edge : (i j : ℕ) → Step es i j → (i' j' : ℕ) → (at es i).owner ≡ i' → (at es j).owner ≡ j' → Edge (steps Towards.Readers es (length es)) j' i'
    backward_edge i j st i' j' a b =
        subst (λ y. Edge (steps Towards.Readers es (length es)) y i') (st.source ∙ b)
        (subst (λ x. Edge (steps Towards.Readers es (length es)) (source es (at es i)) x) a (step_edge Towards.Readers es (length es) i st.reader st.steps))

    pub depends_forward : {t u : ℕ} → Depends (history_of ls) t u → (i j : ℕ) → i < length es → j < length es → (at es i).transaction.0 ≡ t → (at es j).transaction.0 ≡ u
        → Path (steps Towards.Writers es (length es)) m (at es i).owner (at es j).owner
    depends_forward (Depends.one {t = t} {u = u} r) i j lt less a b =
        let (p, q, st, x, y) = reads_step t u r in
        Path.one (forward_edge p q st _ _ (same_owner ls es f s p i st.reader lt (x ∙ sym a)) (same_owner ls es f s q j st.writer less (y ∙ sym b))) (low j less)
    depends_forward (Depends.more {t = t} {u = u} r d) i j lt less a b =
        let (p, q, st, x, y) = reads_step t u r in
        Path.more (forward_edge p q st _ _ (same_owner ls es f s p i st.reader lt (x ∙ sym a)) refl) (low q st.writer) (depends_forward d q j st.writer less y b)

    pub depends_backward : {t u : ℕ} → Depends (history_of ls) t u → (i j : ℕ) → i < length es → j < length es → (at es i).transaction.0 ≡ t → (at es j).transaction.0 ≡ u
        → Path (steps Towards.Readers es (length es)) m (at es j).owner (at es i).owner
    depends_backward (Depends.one {t = t} {u = u} r) i j lt less a b =
        let (p, q, st, x, y) = reads_step t u r in
        Path.one (backward_edge p q st _ _ (same_owner ls es f s p i st.reader lt (x ∙ sym a)) (same_owner ls es f s q j st.writer less (y ∙ sym b))) (low i lt)
    depends_backward (Depends.more {t = t} {u = u} r d) i j lt less a b =
        let (p, q, st, x, y) = reads_step t u r in
        path_snoc (steps Towards.Readers es (length es)) m (at es i).owner (depends_backward d q j st.writer less y b)
        (backward_edge p q st _ _ (same_owner ls es f s p i st.reader lt (x ∙ sym a)) refl) (low i lt)

    -- an edge is a step of the history, between any entries of the two owners
    edge_reads : (i j p : ℕ) → i < length es → j < length es → p < length es → is_step (at es p) ≡ true → (at es p).owner ≡ (at es i).owner → source es (at es p) ≡ (at es j).owner
        → ReadsFrom (history_of ls) (at es i).transaction.0 (at es j).transaction.0
    edge_reads i j p lt less in' h a b =
        let (q, st, r) = step_from p in' h in
        subst (λ t. ReadsFrom (history_of ls) t (at es j).transaction.0) (same_transaction ls es f s p i in' lt a)
        (subst (λ u. ReadsFrom (history_of ls) (at es p).transaction.0 u) (same_transaction ls es f s q j st.writer less (sym st.source ∙ b)) r)

    pub forward_depends : {a b : ℕ} → Path (steps Towards.Writers es (length es)) m a b → (i j : ℕ) → i < length es → j < length es → (at es i).owner ≡ a → (at es j).owner ≡ b
        → Depends (history_of ls) (at es i).transaction.0 (at es j).transaction.0
    forward_depends (Path.one {a = a} {b = b} e small) i j lt less x y =
        let (p, in', h, q) = edge_step Towards.Writers es (length es) a b e in
        Depends.one (edge_reads i j p lt less in' h (ap (λ (w : ℕ × ℕ). w.0) q ∙ sym x) (ap (λ (w : ℕ × ℕ). w.1) q ∙ sym y))
    forward_depends (Path.more {a = a} {b = b} e small rest) i j lt less x y =
        let (p, in', h, q) = edge_step Towards.Writers es (length es) a b e in
        let (k, st, r) = step_from p in' h in
        Depends.more (edge_reads i k p lt st.writer in' h (ap (λ (w : ℕ × ℕ). w.0) q ∙ sym x) st.source)
        (forward_depends rest k j st.writer less (sym st.source ∙ ap (λ (w : ℕ × ℕ). w.1) q) y)

    pub backward_depends : {a b : ℕ} → Path (steps Towards.Readers es (length es)) m a b → (i j : ℕ) → i < length es → j < length es → (at es i).owner ≡ a → (at es j).owner ≡ b
        → Depends (history_of ls) (at es j).transaction.0 (at es i).transaction.0
    backward_depends (Path.one {a = a} {b = b} e small) i j lt less x y =
        let (p, in', h, q) = edge_step Towards.Readers es (length es) a b e in
        Depends.one (edge_reads j i p less lt in' h (ap (λ (w : ℕ × ℕ). w.1) q ∙ sym y) (ap (λ (w : ℕ × ℕ). w.0) q ∙ sym x))
    backward_depends (Path.more {a = a} {b = b} e small rest) i j lt less x y =
        let (p, in', h, q) = edge_step Towards.Readers es (length es) a b e in
        depends_snoc (history_of ls) (at es i).transaction.0 (backward_depends rest p j in' less (ap (λ (w : ℕ × ℕ). w.1) q) y)
        (edge_reads p i p in' lt in' h refl (ap (λ (w : ℕ × ℕ). w.0) q ∙ sym x))
