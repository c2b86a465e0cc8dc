-- The answer on dirty reads is right.
use Rattle.std.proofs.Common.{◌≡◌, ℕ, ◌-◌, ◌<◌, Bool, true, false, not, ◌⊎◌, Option, Some, None, List, length, get_or, Decides, sym, refl, ap, ◌∙◌, subst, inl, inr, arith}
use Rattle.std.proofs.lemmas.Bool.{cases_Bool, and_parts, and_from, ltb-true, lt-ltb, not-true, not_from_false, both_ways}
use Rattle.records.specs.declared.kind.Kind.TheVariants.{Read, Done}
use Rattle.records.specs.declared.line.Line.{Line}
use Rattle.digest.specs.declared.entry.Entry.{Entry}
use Rattle.rules.specs.Rules.{is_read}
use Rattle.digest.specs.Entries.{at, is_step, Sound}
use Rattle.answers.specs.Questions.{some_below, source, comes_before, before, dirty}
use Rattle.verdicts.specs.Verdicts.{Stands, CommittedReads}
use Rattle.answers.proofs.TestLaws.{some_hit}
use Rattle.answers.proofs.CommitLaws.{step_reads}
use Rattle.digest.proofs.FactLaws.{Facts, ReadsFromLine}
use Rattle.answers.proofs.HistoryLaws.{EntryAt, kind_read, stands_entry, entry_stands, wrote_entry, named}
use Rattle.answers.proofs.AnswerLaws.{some_found}
use Rattle.answers.proofs.DoneLaws.{Dones, done_before, done_found}

earlier : (v : Option ℕ) (i : ℕ) → comes_before v i ≡ true → (d : ℕ) × (v ≡ Some d) × (d < i)
earlier (Some d) i h = (d, refl, ltb-true d i h)
earlier None i h = absurd (cc)

module _ (ls : List Line) (es : List Entry) (ds : List (Option ℕ)) (f : Facts ls es) (s : Sound es) (dones : Dones es ds) where
  -- a READ from a transaction: its writer's entry
  source_of : (i : ℕ) (l : Line) → i < length es → ReadsFromLine es i l (at es i) → 0 < (at es i).version
      → (j : ℕ) × (j < length es) × (source es (at es i) ≡ (at es j).owner) × ((at es j).transaction.0 ≡ l.writer.0)
  source_of i l lt (inl (w, v)) pos = absurd (omega arith)
  source_of i l lt (inr (j, v, less, p)) pos =
      let w = wrote_entry ls es f s j l.writer.0 l.card.0 (omega arith) p in
      let back : (at es i).version - 1 ≡ j = omega arith in
      (j, w.entry.inside, ap (λ k. (at es k).owner) back, w.entry.by)

  -- the writer's DONE stands before place i exactly where the table says so
  before_stands : (i j w : ℕ) → j < length es → (at es j).transaction.0 ≡ w → before ds (at es j).owner i ≡ true → (d : ℕ) × (d < i) × Stands ls d Done w
  before_stands i j w lt by h =
      let (d, v, less) = earlier (get_or ds (at es j).owner None) i h in
      (d, less, subst (Stands ls d Done) by (done_found ls es ds f s dones j d lt v))

  stands_before : (i j w d : ℕ) → j < length es → (at es j).transaction.0 ≡ w → d < i → Stands ls d Done w → before ds (at es j).owner i ≡ true
  stands_before i j w d lt by less st =
      let e = stands_entry ls es f s d Done w st in
      let (k, v, le) = done_before ls es ds f s dones j d lt (record { inside = e.inside; kind = e.kind; by = e.by ∙ sym by }) in
      ap (λ o. comes_before o i) v ∙ lt-ltb k i (omega arith)

  clean : some_below (dirty es ds) (length es) ≡ false → CommittedReads ls
  clean none i t x w h =
      let l = h.stands.line in
      let e = stands_entry ls es f s i Read t h.stands in
      by_version l e (f.reads i l h.stands.at h.stands.kind) h.writer
    where
      by_version : (l : Line) → EntryAt es i Read t → ReadsFromLine es i l (at es i) → l.writer.0 ≡ w → (w ≡ 0) ⊎ ((j : ℕ) × (j < i) × Stands ls j Done w)
      by_version l e (inl (w0, v)) cw = inl (sym cw ∙ w0)
      by_version l e (inr (j, v, less, p)) cw =
          let (q, in', src, by) = source_of i l e.inside (inr (j, v, less, p)) (omega arith) in
          let step : is_step (at es i) ≡ true = and_from _ _ (ap is_read e.kind) (lt-ltb 0 _ (omega arith)) in
          elim (cases_Bool (before ds (source es (at es i)) i)) [
            | inl good ↦ inr (before_stands i q w in' (by ∙ cw) (subst (λ o. before ds o i ≡ true) src good))
            | inr bad ↦ absurd (both_ways _ none (some_hit (dirty es ds) (length es) i e.inside (and_from _ _ step (not_from_false _ bad))))
          ]

  unclean : some_below (dirty es ds) (length es) ≡ true → CommittedReads ls → ⊥
  unclean some all =
      let (i, lt, h) = some_found (dirty es ds) (length es) some in
      let (step, late) = and_parts (is_step (at es i)) (not (before ds (source es (at es i)) i)) h in
      let (reads, pos) = step_reads (at es i) step in
      let st = entry_stands ls es f s i Read (at es i).transaction.0 (record { inside = lt; kind = kind_read (at es i).kind reads; by = refl }) in
      let l = st.line in
      let (j, in', src, by) = source_of i l lt (f.reads i l st.at st.kind) pos in
      elim (all i (at es i).transaction.0 l.card.0 l.writer.0 (record { stands = st; card = refl; writer = refl })) [
        | inl w ↦ omega (arith, named ls es f s j in')
        | inr (d, less, q) ↦ both_ways _ (not-true _ late) (subst (λ o. before ds o i ≡ true) (sym src) (stands_before i j l.writer.0 d in' by less q))
      ]

  pub reads_decide : (r : Bool) → r ≡ some_below (dirty es ds) (length es) → Decides (not r) (CommittedReads ls)
  reads_decide true e = ((λ h. absurd (both_ways false refl h)), λ all. absurd (unclean (sym e) all))
  reads_decide false e = ((λ h. clean (sym e)), λ all. refl)
