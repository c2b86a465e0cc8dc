-- The tests of a line's place, against what the rules say of it. Assumes nothing.
use Rattle.std.proofs.Common.{◌≡◌, ℕ, suc, ◌<◌, ◌≤◌, ◌⊎◌, List, [], ◌∷◌, ◌++◌, length, refl, sym, ap, ◌∙◌, subst, inl, inr, arith}
use Rattle.std.specs.Prelude.{Decides}
use Rattle.std.specs.List.{slice_get}
use Rattle.std.proofs.lemmas.Bool.{cases_order, cases_lt}
use Rattle.std.proofs.lemmas.Bool.Decides.{Decides-eqb, Decides-and, Decides-or, Decides-not, Decides-like}
use Rattle.std.proofs.lemmas.Option.{same_Some}
use Rattle.records.specs.declared.kind.Kind.{Kind}
use Rattle.records.specs.declared.kind.Kind.TheVariants.{Read, Writ, Done, Gone}
use Rattle.records.specs.declared.line.Line.{Line}
use Rattle.rules.specs.Rules.{some, told, is_read, is_writ, ends, kind_in_place, in_place}
use Rattle.rules.specs.Lines.{At, Stands, WritAt, ReadAt, EndAt, ReadBefore, WritBefore, EndBefore, InPlace, AllInPlace}
use Rattle.rules.proofs.SomeLaws.{some_finds, some_holds, kind_read, kind_writ, told_decides, end_told, some_ends}
use Rattle.rules.proofs.Snoc.{length_snoc, nth_below, nth_front, nth_last}

-- two lists with the same line at a place
module _ (ls ms : List Line) (i : ℕ) (same : slice_get ls i ≡ slice_get ms i) where
  abbrev stands_same : (k : Kind) (t : ℕ) → Stands ls i k t → Stands ms i k t
  stands_same k t s = record { line = s.line; at = sym same ∙ s.at; kind = s.kind; by = s.by }

  read_same : (t x w : ℕ) → ReadAt ls i t x w → ReadAt ms i t x w
  read_same t x w r = record { stands = stands_same Read t r.stands; card = r.card; writer = r.writer }

  writ_same : (t x : ℕ) → WritAt ls i t x → WritAt ms i t x
  writ_same t x r = record { stands = stands_same Writ t r.stands; card = r.card }

  end_same : (t : ℕ) → EndAt ls i t → EndAt ms i t
  end_same t (inl s) = inl (stands_same Done t s)
  end_same t (inr s) = inr (stands_same Gone t s)

-- two lists with the same lines before a place
abbrev pub Alike : (ls ms : List Line) → ℕ → Type 0
Alike ls ms n = (i : ℕ) → i < n → slice_get ls i ≡ slice_get ms i

module _ (ls ms : List Line) (i : ℕ) (same : Alike ls ms i) where
  read_before_same : (t x : ℕ) → ReadBefore ls i t x → ReadBefore ms i t x
  read_before_same t x (j, lt, w, r) = (j, lt, w, read_same ls ms j (same j lt) t x w r)

  writ_before_same : (t x : ℕ) → WritBefore ls i t x → WritBefore ms i t x
  writ_before_same t x (j, lt, r) = (j, lt, writ_same ls ms j (same j lt) t x r)

  end_before_same : (t : ℕ) → EndBefore ls i t → EndBefore ms i t
  end_before_same t (j, lt, e) = (j, lt, end_same ls ms j (same j lt) t e)

-- what stands behind a place does not matter there
in_place_same : (ls ms : List Line) (i : ℕ) → Alike ls ms (suc i) → InPlace ls i → InPlace ms i
in_place_same ls ms i same p = record {
  not_after_end = λ t (k, s) e. p.not_after_end t (k, stands_same ms ls i here k t s) (end_before_same ms ls i back t e);
  first_read = λ t x w r e. p.first_read t x w (read_same ms ls i here t x w r) (read_before_same ms ls i back t x e);
  first_writ = λ t x r e. p.first_writ t x (writ_same ms ls i here t x r) (writ_before_same ms ls i back t x e);
  own_read = λ t x r. read_before_same ls ms i forth t x (p.own_read t x (writ_same ms ls i here t x r));
  names_another = λ t x w r. p.names_another t x w (read_same ms ls i here t x w r);
  writer_wrote = λ t x w r. elim (p.writer_wrote t x w (read_same ms ls i here t x w r)) [ inl e ↦ inl e | inr e ↦ inr (writ_before_same ls ms i forth w x e) ];
}
  where
    here : slice_get ms i ≡ slice_get ls i
    here = sym (same i (omega arith))

    forth : Alike ls ms i
    forth j lt = same j (omega arith)

    back : Alike ms ls i
    back j lt = sym (same j (omega arith))

-- where no line stands, none is out of place
pub in_place_past : (ls : List Line) (i : ℕ) → length ls ≤ i → InPlace ls i
in_place_past ls i past = record {
  not_after_end = λ t (k, s). nobody k t s;
  first_read = λ t x w r. nobody Read t r.stands;
  first_writ = λ t x r. nobody Writ t r.stands;
  own_read = λ t x r. nobody Writ t r.stands;
  names_another = λ t x w r. nobody Read t r.stands;
  writer_wrote = λ t x w r. nobody Read t r.stands;
}
  where
    nobody : {A : Type 0} (k : Kind) (t : ℕ) → Stands ls i k t → A
    nobody k t s = absurd (omega (arith, nth_below ls i s.line s.at))

-- one line more
module _ (ls : List Line) (l : Line) where
  abbrev all : List Line
  all = ls ++ l ∷ []

  abbrev i : ℕ
  i = length ls

  old : Alike ls all i
  old j lt = sym (nth_front ls (l ∷ []) j lt)

  -- the new line stands at the last place, and no other does
  new : At all i l
  new = nth_last ls l

  alone : (m : Line) → At all i m → l ≡ m
  alone m at = same_Some l m (sym new ∙ at)

  read_there : (P : ℕ → ℕ → ℕ → Type 0) → (l.kind ≡ Read → P l.transaction.0 l.card.0 l.writer.0)
      → (t x w : ℕ) → ReadAt all i t x w → P t x w
  read_there P p t x w r =
      let same = alone r.stands.line r.stands.at in
      subst (P t x) (ap (λ (m : Line). m.writer.0) same ∙ r.writer)
      (subst (λ y. P t y l.writer.0) (ap (λ (m : Line). m.card.0) same ∙ r.card)
      (subst (λ u. P u l.card.0 l.writer.0) (ap (λ (m : Line). m.transaction.0) same ∙ r.stands.by)
      (p (ap (λ (m : Line). m.kind) same ∙ r.stands.kind))))

  writ_there : (P : ℕ → ℕ → Type 0) → (l.kind ≡ Writ → P l.transaction.0 l.card.0) → (t x : ℕ) → WritAt all i t x → P t x
  writ_there P p t x r =
      let same = alone r.stands.line r.stands.at in
      subst (P t) (ap (λ (m : Line). m.card.0) same ∙ r.card)
      (subst (λ u. P u l.card.0) (ap (λ (m : Line). m.transaction.0) same ∙ r.stands.by)
      (p (ap (λ (m : Line). m.kind) same ∙ r.stands.kind)))

  -- what the tests over the lines before it find
  read_before : (t x : ℕ) → Decides (some (told is_read t x) ls) (ReadBefore all i t x)
  read_before t x = (
    λ h.
        let (j, m, at, e) = some_finds (told is_read t x) ls h in
        let q = (told_decides is_read (λ k. k ≡ Read) kind_read t x m).0 e in
        let lt = nth_below ls j m at in
        (j, lt, m.writer.0, record { stands = record { line = m; at = sym (old j lt) ∙ at; kind = q.0.0; by = q.0.1 }; card = q.1; writer = refl }),
    λ (j, lt, w, r). some_holds (told is_read t x) ls j r.stands.line (old j lt ∙ r.stands.at)
        ((told_decides is_read (λ k. k ≡ Read) kind_read t x r.stands.line).1 ((r.stands.kind, r.stands.by), r.card)),
  )

  writ_before : (t x : ℕ) → Decides (some (told is_writ t x) ls) (WritBefore all i t x)
  writ_before t x = (
    λ h.
        let (j, m, at, e) = some_finds (told is_writ t x) ls h in
        let q = (told_decides is_writ (λ k. k ≡ Writ) kind_writ t x m).0 e in
        let lt = nth_below ls j m at in
        (j, lt, record { stands = record { line = m; at = sym (old j lt) ∙ at; kind = q.0.0; by = q.0.1 }; card = q.1 }),
    λ (j, lt, r). some_holds (told is_writ t x) ls j r.stands.line (old j lt ∙ r.stands.at)
        ((told_decides is_writ (λ k. k ≡ Writ) kind_writ t x r.stands.line).1 ((r.stands.kind, r.stands.by), r.card)),
  )

  end_before : (t : ℕ) → Decides (some (ends t) ls) (EndBefore all i t)
  end_before t =
      Decides-like (some (ends t) ls)
      (λ (j, e). let (m, at, told) = end_told ls j t e in let lt = nth_below ls j m at in (j, lt, end_same ls all j (old j lt) t e))
      (λ (j, lt, e). (j, end_same all ls j (sym (old j lt)) t e)) (some_ends ls t)

  -- what the place of a line of each kind asks, but for an end of its transaction
  abbrev Fits : Kind → Type 0
  Fits Read = (¬ ReadBefore all i l.transaction.0 l.card.0 × ¬ (l.writer.0 ≡ l.transaction.0)) × ((l.writer.0 ≡ 0) ⊎ WritBefore all i l.writer.0 l.card.0)
  Fits Writ = ReadBefore all i l.transaction.0 l.card.0 × ¬ WritBefore all i l.transaction.0 l.card.0
  Fits Done = Unit {0}
  Fits Gone = Unit {0}

  fits_decides : (k : Kind) → Decides (kind_in_place k ls l) (Fits k)
  fits_decides Read =
      Decides-and _ _
      (Decides-and _ _ (Decides-not _ (read_before l.transaction.0 l.card.0)) (Decides-not _ (Decides-eqb l.writer.0 l.transaction.0)))
      (Decides-or _ _ (Decides-eqb l.writer.0 0) (writ_before l.writer.0 l.card.0))
  fits_decides Writ = Decides-and _ _ (read_before l.transaction.0 l.card.0) (Decides-not _ (writ_before l.transaction.0 l.card.0))
  fits_decides Done = (λ e. tt, λ u. refl)
  fits_decides Gone = (λ e. tt, λ u. refl)

  in_place_from : ¬ EndBefore all i l.transaction.0 × Fits l.kind → InPlace all i
  in_place_from (open-end, fits) = record {
    not_after_end = λ t (k, s). subst (λ u. ¬ EndBefore all i u) (ap (λ (m : Line). m.transaction.0) (alone s.line s.at) ∙ s.by) open-end;
    first_read = read_there (λ t x w. ¬ ReadBefore all i t x) (λ k. (read_fits k).0.0);
    first_writ = writ_there (λ t x. ¬ WritBefore all i t x) (λ k. (writ_fits k).1);
    own_read = writ_there (λ t x. ReadBefore all i t x) (λ k. (writ_fits k).0);
    names_another = read_there (λ t x w. ¬ (w ≡ t)) (λ k. (read_fits k).0.1);
    writer_wrote = read_there (λ t x w. (w ≡ 0) ⊎ WritBefore all i w x) (λ k. (read_fits k).1);
  }
    where
      read_fits : l.kind ≡ Read → Fits Read
      read_fits k = subst Fits k fits

      writ_fits : l.kind ≡ Writ → Fits Writ
      writ_fits k = subst Fits k fits

  in_place_parts : InPlace all i → ¬ EndBefore all i l.transaction.0 × Fits l.kind
  in_place_parts p = (p.not_after_end l.transaction.0 (l.kind, stands l.kind refl), fits l.kind refl)
    where
      stands : (k : Kind) → l.kind ≡ k → Stands all i k l.transaction.0
      stands k e = record { line = l; at = new; kind = e; by = refl }

      fits : (k : Kind) → l.kind ≡ k → Fits k
      fits Read e =
          let r : ReadAt all i l.transaction.0 l.card.0 l.writer.0 = record { stands = record { line = l; at = new; kind = e; by = refl }; card = refl; writer = refl } in
          ((p.first_read l.transaction.0 l.card.0 l.writer.0 r, p.names_another l.transaction.0 l.card.0 l.writer.0 r), p.writer_wrote l.transaction.0 l.card.0 l.writer.0 r)
      fits Writ e =
          let r : WritAt all i l.transaction.0 l.card.0 = record { stands = record { line = l; at = new; kind = e; by = refl }; card = refl } in
          (p.own_read l.transaction.0 l.card.0 r, p.first_writ l.transaction.0 l.card.0 r)
      fits Done e = tt
      fits Gone e = tt

  -- the test of a line's place says exactly what the rules do
  pub in_place_decides : Decides (in_place ls l) (InPlace all i)
  in_place_decides =
      Decides-like (in_place ls l) in_place_from in_place_parts
      (Decides-and _ _ (Decides-not _ (end_before l.transaction.0)) (fits_decides l.kind))

  -- and the lines before it are in place as they were
  pub all_more : AllInPlace ls → InPlace all i → AllInPlace all
  all_more p q j = elim (cases_order j i) [
    | inl here ↦ subst (InPlace all) (sym here) q
    | inr (inl before) ↦ in_place_same ls all j (λ k lt. old k (omega arith)) (p j)
    | inr (inr past) ↦ in_place_past all j (omega (arith, length_snoc ls l))
  ]

  pub all_less : AllInPlace all → AllInPlace ls
  all_less p j = elim (cases_lt j i) [
    | inl before ↦ in_place_same all ls j (λ k lt. sym (old k (omega arith))) (p j)
    | inr past ↦ in_place_past ls j past
  ]
