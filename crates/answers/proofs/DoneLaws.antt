-- Who is committed, and since which place.
use Rattle.std.proofs.Common.{◌≡◌, ℕ, zero, suc, ◌<◌, ◌≤◌, Bool, true, false, cond, not, ◌&&◌, eqb, Option, Some, None, is_some, List, length, get_or, sym, refl, ap, ◌∙◌, subst, inl, inr, arith}
use Rattle.std.proofs.lemmas.Bool.{cases_lt, and_parts, and_from, eqb-true, eq-eqb, both_ways}
use Rattle.records.specs.declared.kind.Kind.TheVariants.{Done}
use Rattle.records.specs.declared.line.Line.{Line}
use Rattle.digest.specs.declared.entry.Entry.{Entry}
use Rattle.digest.specs.Entries.{at, is_done, Sound}
use Rattle.answers.specs.Questions.{done_in, committed}
use Rattle.verdicts.specs.Verdicts.{Stands, Commits}
use Rattle.digest.proofs.FactLaws.{Facts}
use Rattle.answers.proofs.HistoryLaws.{EntryAt, kind_done, stands_entry, entry_stands, same_owner, same_transaction}

-- v is the place of the first DONE of owner o among the first n entries, if there is one
pub record FirstDone (es : List Entry) (o n : ℕ) (v : Option ℕ) : Type 0 where
  pub none : (i : ℕ) → i < n → is_done (at es i).kind ≡ true → (at es i).owner ≡ o → (d : ℕ) × (v ≡ Some d) × (d ≤ i)
  pub some : (d : ℕ) → v ≡ Some d → (d < n) × (is_done (at es d).kind ≡ true) × ((at es d).owner ≡ o)

done_step : (es : List Entry) (o n : ℕ) (v : Option ℕ) (b : Bool) → (is_done (at es n).kind && eqb (at es n).owner o && not (is_some v)) ≡ b
    → FirstDone es o n v → FirstDone es o (suc n) (cond b (Some n) v)
done_step es o n (Some d) true e h = let (front, z) = and_parts (is_done (at es n).kind && eqb (at es n).owner o) false e in absurd (cc)
done_step es o n None true e h =
    let (front, z) = and_parts (is_done (at es n).kind && eqb (at es n).owner o) true e in
    let (d, own) = and_parts (is_done (at es n).kind) (eqb (at es n).owner o) front in
    record {
      none = λ i lt p q. elim (cases_lt i n) [
        | inl small ↦ let (x, z, le) = h.none i small p q in absurd (cc)
        | inr large ↦ (n, refl, omega arith)
      ];
      some = λ x z. let same : n ≡ x = cc in (omega arith, subst (λ k. is_done (at es k).kind ≡ true) same d, subst (λ k. (at es k).owner ≡ o) same (eqb-true _ _ own));
    }
done_step es o n v false e h = record {
  none = λ i lt p q. elim (cases_lt i n) [
    | inl small ↦ h.none i small p q
    | inr large ↦ let s : i ≡ n = omega arith in
        known v e h i s (subst (λ k. is_done (at es k).kind ≡ true) s p) (subst (λ k. (at es k).owner ≡ o) s q)
  ];
  some = λ d z. let (lt, p, q) = h.some d z in (omega arith, p, q);
}
  where
    known : (v : Option ℕ) → (is_done (at es n).kind && eqb (at es n).owner o && not (is_some v)) ≡ false → FirstDone es o n v
        → (i : ℕ) → i ≡ n → is_done (at es n).kind ≡ true → (at es n).owner ≡ o → (d : ℕ) × (v ≡ Some d) × (d ≤ i)
    known (Some d) e h i s p q = (d, refl, omega (arith, (h.some d refl).0))
    known None e h i s p q = absurd (both_ways _ e (and_from _ _ (and_from _ _ p (eq-eqb _ _ q)) refl))

pub first_done : (es : List Entry) (o n : ℕ) → FirstDone es o n (done_in es o n)
unfolding done_in
first_done es o zero = record { none = λ i lt p q. absurd (omega arith); some = λ d z. absurd (cc) }
first_done es o (suc n) = done_step es o n (done_in es o n) (is_done (at es n).kind && eqb (at es n).owner o && not (is_some (done_in es o n))) refl (first_done es o n)

-- ds has the place of each transaction's first DONE
abbrev pub Dones : List Entry → List (Option ℕ) → Type 0
Dones es ds = (o : ℕ) → o < length es → get_or ds o None ≡ done_in es o (length es)

some_there : (v : Option ℕ) → is_some v ≡ true → (d : ℕ) × (v ≡ Some d)
some_there (Some d) h = (d, refl)
some_there None h = absurd (cc)

module _ (ls : List Line) (es : List Entry) (ds : List (Option ℕ)) (f : Facts ls es) (s : Sound es) (dones : Dones es ds) where
  -- the place of the first DONE of entry i's transaction
  done_at : (i : ℕ) → i < length es → FirstDone es (at es i).owner (length es) (get_or ds (at es i).owner None)
  done_at i lt = subst (FirstDone es (at es i).owner (length es)) (sym (dones (at es i).owner (omega (arith, s.owner i lt)))) (first_done es (at es i).owner (length es))

  pub done_before : (i d : ℕ) → i < length es → EntryAt es d Done (at es i).transaction.0 → (k : ℕ) × (get_or ds (at es i).owner None ≡ Some k) × (k ≤ d)
  done_before i d lt e = (done_at i lt).none d e.inside (ap is_done e.kind) (same_owner ls es f s d i e.inside lt e.by)

  pub done_found : (i d : ℕ) → i < length es → get_or ds (at es i).owner None ≡ Some d → Stands ls d Done (at es i).transaction.0
  done_found i d lt v =
      let (in', k, own) = (done_at i lt).some d v in
      entry_stands ls es f s d Done (at es i).transaction.0
      (record { inside = in'; kind = kind_done (at es d).kind k; by = same_transaction ls es f s d i in' lt own })

  pub done_stands : (i t : ℕ) → i < length es → (at es i).transaction.0 ≡ t → Commits ls t → committed ds (at es i).owner ≡ true
  done_stands i t lt by (d, st) =
      let e = stands_entry ls es f s d Done t st in
      let (k, v, le) = done_before i d lt (record { inside = e.inside; kind = e.kind; by = e.by ∙ sym by }) in
      ap is_some v

  pub commits : (i : ℕ) → i < length es → committed ds (at es i).owner ≡ true → Commits ls (at es i).transaction.0
  commits i lt h = let (d, v) = some_there (get_or ds (at es i).owner None) h in (d, done_found i d lt v)
