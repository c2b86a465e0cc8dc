-- The answer on conflicts between writers is right.
use Rattle.std.proofs.Common.{◌≡◌, ℕ, suc, ◌<◌, Bool, true, false, not, ◌&&◌, ◌||◌, eqb, Option, List, length, Decides, sym, refl, ap, ◌∙◌, subst, inl, inr, arith}
use Rattle.std.proofs.lemmas.Bool.{cases_Bool, cases_order, and_parts, and_from, or_parts, or_from, eqb-true, eq-eqb, ne_eqb, eqb-false, ltb-true, lt-ltb, not-true, not_from_false, both_ways}
use Rattle.isolation.specs.History.{Clash, Independent, WriteConflictFree}
use Rattle.reach.specs.Paths.{Path, Marked}
use Rattle.records.specs.declared.kind.Kind.TheVariants.{Writ}
use Rattle.records.specs.declared.line.Line.{Line}
use Rattle.digest.specs.declared.entry.Entry.{Entry}
use Rattle.answers.specs.Questions.{Towards}
use Rattle.rules.specs.Rules.{is_writ}
use Rattle.digest.specs.Entries.{at, rivals, Sound}
use Rattle.answers.specs.Questions.{marked, committed, apart, clashes, lost, steps, Asked, Conflict, Conflicts}
use Rattle.verdicts.specs.Verdicts.{history_of}
use Rattle.answers.proofs.TestLaws.{some_hit}
use Rattle.digest.proofs.FactLaws.{Facts}
use Rattle.answers.proofs.HistoryLaws.{kind_writ, writes_entry, entry_writes, same_owner, same_transaction}
use Rattle.answers.proofs.PathLaws.{depends_forward, depends_backward, forward_depends, backward_depends}
use Rattle.answers.proofs.AnswerLaws.{some_found, owner_of}
use Rattle.answers.proofs.DoneLaws.{Dones, done_stands, commits}

-- entries i and j write one card in two transactions, and that of j is committed and marked in neither
pub record Rivals (es : List Entry) (ds : List (Option ℕ)) (fs bs : List ℕ) (i j : ℕ) : Type 0 where
  pub one : i < length es
  pub other : j < i
  pub writes : (at es i).kind ≡ Writ
  pub writes_too : (at es j).kind ≡ Writ
  pub card : (at es i).card.0 ≡ (at es j).card.0
  pub two : (at es i).owner ≡ (at es j).owner → ⊥
  pub done : committed ds (at es j).owner ≡ true
  pub ahead : marked fs (at es j).owner ≡ false
  pub behind : marked bs (at es j).owner ≡ false

lost_found : (es : List Entry) (ds : List (Option ℕ)) (fs bs : List ℕ) (o : ℕ) → lost es ds fs bs o ≡ true → (i : ℕ) × (j : ℕ) × ((at es i).owner ≡ o) × Rivals es ds fs bs i j
lost_found es ds fs bs o h =
    let (i, lt, p) = some_found _ _ h in
    let (front-i, out) = and_parts (is_writ (at es i).kind && eqb (at es i).owner o) (clashes es ds fs bs i) p in
    let own = (and_parts (is_writ (at es i).kind) (eqb (at es i).owner o) front-i).1 in
    let (j, less, q) = some_found _ _ out in
    let (riv, alone) = and_parts (rivals (at es i) (at es j)) (apart ds fs bs (at es j).owner) q in
    let (done, free) = and_parts (committed ds (at es j).owner) (not (marked fs (at es j).owner || marked bs (at es j).owner)) alone in
    let (kc, differ) = and_parts (is_writ (at es i).kind && is_writ (at es j).kind && eqb (at es i).card.0 (at es j).card.0) (not (eqb (at es i).owner (at es j).owner)) riv in
    let (kk, c) = and_parts (is_writ (at es i).kind && is_writ (at es j).kind) (eqb (at es i).card.0 (at es j).card.0) kc in
    let (a, b) = and_parts (is_writ (at es i).kind) (is_writ (at es j).kind) kk in
    let (fw, bw) = or_parts (marked fs (at es j).owner) (marked bs (at es j).owner) (not-true _ free) in (
      i,
      j,
      eqb-true _ _ own,
      record {
        one = lt;
        other = less;
        writes = kind_writ (at es i).kind a;
        writes_too = kind_writ (at es j).kind b;
        card = eqb-true _ _ c;
        two = eqb-false _ _ (not-true _ differ);
        done = done;
        ahead = fw;
        behind = bw;
      },
    )

lost_hit : (es : List Entry) (ds : List (Option ℕ)) (fs bs : List ℕ) (i j : ℕ) → Rivals es ds fs bs i j → lost es ds fs bs (at es i).owner ≡ true
lost_hit es ds fs bs i j r =
    let riv = and_from _ _ (and_from _ _ (and_from _ _ (ap is_writ r.writes) (ap is_writ r.writes_too)) (eq-eqb _ _ r.card)) (not_from_false _ (ne_eqb _ _ r.two)) in
    let out : clashes es ds fs bs i ≡ true =
    some_hit _ i j r.other (and_from _ _ riv (and_from _ _ r.done (not_from_false _ (or_from _ _ r.ahead r.behind)))) in
    some_hit _ (length es) i r.one (and_from _ _ (and_from _ _ (ap is_writ r.writes) (eq-eqb _ _ refl)) out)

module _ (ls : List Line) (es : List Entry) (ds : List (Option ℕ)) (f : Facts ls es) (s : Sound es) (dones : Dones es ds) where
  -- no path, no mark
  unmarked : (ms : List ℕ) (b : ℕ) → (Marked ms b → ⊥) → marked ms b ≡ false
  unmarked ms b no-mark = elim (cases_Bool (marked ms b)) [ inl h ↦ absurd (no-mark (ltb-true 0 _ h)) | inr h ↦ h ]

  -- two independent committed writers of one card, the entry of the one before that of the other
  pair : (i j : ℕ) → Conflict es ds (steps Towards.Writers es (length es)) (steps Towards.Readers es (length es)) (length es) (at es i).owner false
      → i < length es → j < i → (at es i).kind ≡ Writ → (at es j).kind ≡ Writ → (at es i).card.0 ≡ (at es j).card.0
      → ((at es i).transaction.0 ≡ (at es j).transaction.0 → ⊥) → committed ds (at es i).owner ≡ true → committed ds (at es j).owner ≡ true
      → Independent (history_of ls) (at es i).transaction.0 (at es j).transaction.0 → ⊥
  pair i j con lt less w w' card two done done' apart = asked con.asked
    where
      within : j < length es
      within = omega arith

      ahead : marked con.forward (at es j).owner ≡ false
      ahead = unmarked con.forward (at es j).owner (λ m. apart.forth
          (forward_depends ls es f s (length con.forward) con.long (con.reached.sound (at es j).owner m) i j lt within refl refl))

      rivals_by : (bs : List ℕ) → marked bs (at es j).owner ≡ false → Rivals es ds con.forward bs i j
      rivals_by bs behind = record {
        one = lt;
        other = less;
        writes = w;
        writes_too = w';
        card = card;
        two = λ e. two (same_transaction ls es f s i j lt within e);
        done = done';
        ahead = ahead;
        behind = behind;
      }

      asked : Asked es ds (steps Towards.Readers es (length es)) (length es) con.forward (at es i).owner false → ⊥
      asked (inl open') = both_ways _ open' done
      asked (inr (inl none)) = both_ways _ none (lost_hit es ds con.forward con.forward i j (rivals_by con.forward ahead))
      asked (inr (inr b)) = both_ways _ b.tells (lost_hit es ds con.forward b.backward i j (rivals_by b.backward
          (unmarked b.backward (at es j).owner (λ m. apart.back
          (backward_depends ls es f s (length b.backward) b.long (b.reaching.sound (at es j).owner m) i j lt within refl refl)))))

  conflict_good : ((o : ℕ) → o < length es → (at es o).owner ≡ o → Conflict es ds (steps Towards.Writers es (length es)) (steps Towards.Readers es (length es)) (length es) o false)
      → WriteConflictFree (history_of ls)
  conflict_good all c =
      let (i, a, v) = writes_entry ls es f s c.one c.card c.one_version c.one_wrote in
      let (j, b, w) = writes_entry ls es f s c.other c.card c.other_version c.other_wrote in
      let lt = v.entry.inside in
      let less = w.entry.inside in
      let t-is = v.entry.by in
      let u-is = w.entry.by in
      let card = v.card ∙ sym w.card in
      let differ : (at es i).transaction.0 ≡ (at es j).transaction.0 → ⊥ = λ e. c.two (sym t-is ∙ e ∙ u-is) in
      let done = done_stands ls es ds f s dones i c.one lt t-is c.one_done in
      let done' = done_stands ls es ds f s dones j c.other less u-is c.other_done in
      let own = owner_of es s i lt in
      let own' = owner_of es s j less in
      let apart : Independent (history_of ls) (at es i).transaction.0 (at es j).transaction.0 =
      subst (λ t. Independent (history_of ls) t (at es j).transaction.0) (sym t-is) (subst (λ u. Independent (history_of ls) c.one u) (sym u-is) c.apart) in
      elim (cases_order i j) [
        | inl e ↦ differ (ap (λ k. (at es k).transaction.0) e)
        | inr (inl below) ↦ pair j i (all (at es j).owner own'.0 own'.1) less below w.entry.kind v.entry.kind (sym card) (λ e. differ (sym e)) done' done
            (record { forth = apart.back; back = apart.forth })
        | inr (inr above) ↦ pair i j (all (at es i).owner own.0 own.1) lt above v.entry.kind w.entry.kind card differ done done' apart
      ]

  conflict_bad : (o : ℕ) → Conflict es ds (steps Towards.Writers es (length es)) (steps Towards.Readers es (length es)) (length es) o true → Clash (history_of ls)
  conflict_bad o con =
      let (done, b) = con.asked in
      let (i, j, own, r) = lost_found es ds con.forward b.backward o b.tells in
      let t = (at es i).transaction.0 in
      let u = (at es j).transaction.0 in
      let within : j < length es = omega (arith, r.one, r.other) in
      record {
        one = t;
        other = u;
        two = λ e. r.two (same_owner ls es f s i j r.one within e);
        one_done = commits ls es ds f s dones i r.one (subst (λ k. committed ds k ≡ true) (sym own) done);
        other_done = commits ls es ds f s dones j within r.done;
        card = (at es i).card.0;
        one_version = suc i;
        other_version = suc j;
        one_wrote = entry_writes ls es f s i t (at es i).card.0 (at es i).version
            (record { entry = record { inside = r.one; kind = r.writes; by = refl }; card = refl; version = refl });
        other_wrote = entry_writes ls es f s j u (at es i).card.0 (at es j).version
            (record { entry = record { inside = within; kind = r.writes_too; by = refl }; card = sym r.card; version = refl });
        apart = record {
          forth = λ d. both_ways _ r.ahead (lt-ltb 0 _ (con.reached.complete (at es j).owner
              (subst (λ k. Path (steps Towards.Writers es (length es)) (length con.forward) k (at es j).owner) own
              (depends_forward ls es f s (length con.forward) con.long d i j r.one within refl refl))));
          back = λ d. both_ways _ r.behind (lt-ltb 0 _ (b.reaching.complete (at es j).owner
              (subst (λ k. Path (steps Towards.Readers es (length es)) (length b.backward) k (at es j).owner) own
              (depends_backward ls es f s (length b.backward) b.long d j i within r.one refl refl))));
        };
      }

  pub conflicts_decide : (r : Bool) → Conflicts es ds (steps Towards.Writers es (length es)) (steps Towards.Readers es (length es)) (length es) (length es) r → Decides r (WriteConflictFree (history_of ls))
  conflicts_decide true h = ((λ e. conflict_good h), λ p. refl)
  conflicts_decide false (o, own, con) = ((λ e. absurd (both_ways false refl e)), λ p. absurd (p (conflict_bad o con)))
