-- What the entries of good lines say of the lines.
use Rattle.std.proofs.Common.{◌≡◌, ℕ, suc, ◌<◌, Bool, true, false, cond, not, ◌&&◌, eqb, ◌⊎◌, List, [], ◌∷◌, ◌++◌, length, Some, None, Option, sym, refl, ap, ◌∙◌, subst, inl, inr, arith}
use Rattle.std.specs.List.{slice_get}
use Rattle.std.proofs.lemmas.Bool.Decides.{eqb_tells}
use Rattle.std.proofs.lemmas.Bool.{and_parts, or_cases, eqb-true, not-true, both_ways}
use Rattle.records.specs.declared.kind.Kind.{Kind}
use Rattle.records.specs.declared.kind.Kind.TheVariants.{Read, Writ, Done, Gone}
use Rattle.records.specs.declared.line.Line.{Line}
use Rattle.digest.specs.declared.entry.Entry.{Entry}
use Rattle.rules.specs.Rules.{is_writ, some, told, ends, in_place, kind_in_place}
use Rattle.rules.proofs.SomeLaws.{some_finds, some_holds}
use Rattle.digest.specs.Entries.{at, wrote, version_in, version_of, entry_of, Sound}
use Rattle.digest.specs.Told.{Told}
use Rattle.digest.proofs.Snoc.{length_snoc, nth_inside, nth_below, nth_snoc}
use Rattle.digest.proofs.EntryLaws.{owner_found, version_found, at_old, at_new, old_or_new, sound_none, sound_more}

-- an entry has its line's kind, transaction and card
pub record Same (e : Entry) (l : Line) : Type 0 where
  pub kind : e.kind ≡ l.kind
  pub transaction : e.transaction.0 ≡ l.transaction.0
  pub card : e.card.0 ≡ l.card.0

-- e is a READ of version 0, or of the version that an earlier entry of es wrote
abbrev pub ReadsFromLine : List Entry → ℕ → Line → Entry → Type 0
ReadsFromLine es i l e =
    ((l.writer.0 ≡ 0) × (e.version ≡ 0)) ⊎ ((j : ℕ) × (e.version ≡ suc j) × (j < i) × (wrote (at es j) l.card.0 l.writer.0 ≡ true))

pub record Facts (ls : List Line) (es : List Entry) : Type 0 where
  pub long : length es ≡ length ls
  pub same : (i : ℕ) (l : Line) → slice_get ls i ≡ Some l → Same (at es i) l
  pub named : (i : ℕ) (l : Line) → slice_get ls i ≡ Some l → 0 < l.transaction.0
  pub own : (i : ℕ) → i < length es → (at es (at es i).owner).transaction.0 ≡ (at es i).transaction.0
  pub shared : (i j : ℕ) → i < length es → j < length es → (at es i).transaction.0 ≡ (at es j).transaction.0 → (at es i).owner ≡ (at es j).owner
  pub writ : (i : ℕ) → i < length es → (at es i).kind ≡ Writ → (at es i).version ≡ suc i
  pub reads : (i : ℕ) (l : Line) → slice_get ls i ≡ Some l → l.kind ≡ Read → ReadsFromLine es i l (at es i)
  pub once : (i j x t : ℕ) → i < j → j < length es → wrote (at es i) x t ≡ true → wrote (at es j) x t ≡ true → ⊥

facts_none : Facts [] []
facts_none = record {
  long = refl;
  same = λ i l e. never l e;
  named = λ i l e. never l e;
  own = λ i lt. absurd (omega arith);
  shared = λ i j lt lt' e. absurd (omega arith);
  writ = λ i lt e. absurd (omega arith);
  reads = λ i l e k. never l e;
  once = λ i j x t lt lt' a b. absurd (omega arith);
}
  where
    never : {A : Type 0} (l : Line) → ◌≡◌ {A = Option Line} None (Some l) → A
    never l e = let z : ◌≡◌ {A = ℕ} 0 1 = cc in absurd (omega arith)

module _ (ls : List Line) (es : List Entry) (l : Line) (f : Facts ls es) (s : Sound es) (fits : in_place ls l ≡ true) where
  told_wrote : (i : ℕ) (m : Line) (x t : ℕ) → slice_get ls i ≡ Some m → told is_writ t x m ≡ wrote (at es i) x t
  told_wrote i m x t at' = let q = f.same i m at' in let a = q.kind in let b = q.transaction in let c = q.card in cc

  -- an earlier WRIT that the line could have meant
  wrote_some : (i x t : ℕ) → i < length es → wrote (at es i) x t ≡ true → some (told is_writ t x) ls ≡ true
  wrote_some i x t lt h = let (m, at') = nth_inside ls i (omega (arith, f.long)) in some_holds (told is_writ t x) ls i m at' (told_wrote i m x t at' ∙ h)

  in_its_place : kind_in_place l.kind ls l ≡ true
  in_its_place = (and_parts (not (some (ends l.transaction.0) ls)) (kind_in_place l.kind ls l) fits).1

  read_place : l.kind ≡ Read → (l.writer.0 ≡ 0 → ⊥) → some (told is_writ l.writer.0 l.card.0) ls ≡ true
  read_place k ne =
      let p = subst (λ (q : Kind). kind_in_place q ls l ≡ true) k in_its_place in
      let last = (and_parts _ _ p).1 in
      elim (or_cases _ _ last) [ inl z ↦ absurd (ne (eqb-true l.writer.0 0 z)) | inr h ↦ h ]

  writ_place : l.kind ≡ Writ → some (told is_writ l.transaction.0 l.card.0) ls ≡ false
  writ_place k = let p = subst (λ (q : Kind). kind_in_place q ls l ≡ true) k in_its_place in not-true _ (and_parts _ _ p).1

  -- what is new in the entry of the line
  new_version : (k : Kind) → k ≡ Writ → version_of k es l ≡ suc (length es)
  new_version k e = ap (λ (q : Kind). version_of q es l) e

  read_version : (b : Bool) → ((b ≡ true) × (l.writer.0 ≡ 0)) ⊎ ((b ≡ false) × (l.writer.0 ≡ 0 → ⊥)) → l.kind ≡ Read
      → ((l.writer.0 ≡ 0) × (cond b 0 (version_in es l.card.0 l.writer.0 (length es)) ≡ 0))
      ⊎ ((j : ℕ) × (cond b 0 (version_in es l.card.0 l.writer.0 (length es)) ≡ suc j) × (j < length es) × (wrote (at es j) l.card.0 l.writer.0 ≡ true))
  read_version true (inl (b, e)) k = inl (e, refl)
  read_version true (inr (b, e)) k = let z : ◌≡◌ {A = ℕ} 0 1 = cc in absurd (omega arith)
  read_version false (inl (b, e)) k = let z : ◌≡◌ {A = ℕ} 0 1 = cc in absurd (omega arith)
  read_version false (inr (b, e)) k = elim (version_found es l.card.0 l.writer.0 (length es)) [
    | inl (v, absent) ↦
        let (j, m, at', h) = some_finds (told is_writ l.writer.0 l.card.0) ls (read_place k e) in
        let lt : j < length es = omega (arith, nth_below ls j m at', f.long) in
        absurd (both_ways _ (absent j lt) (sym (told_wrote j m l.card.0 l.writer.0 at') ∙ h))
    | inr (j, lt, h, v) ↦ inr (j, v, lt, h)
  ]

  new_reads : l.kind ≡ Read → ReadsFromLine (es ++ entry_of es l ∷ []) (length es) l (entry_of es l)
  new_reads k =
      let v = ap (λ (q : Kind). version_of q es l) k in
      elim (read_version (eqb l.writer.0 0) (eqb_tells l.writer.0 0) k) [
        | inl (w, e) ↦ inl (w, v ∙ e)
        | inr (j, e, lt, h) ↦ inr (j, v ∙ e, lt, subst (λ (x : Entry). wrote x l.card.0 l.writer.0 ≡ true) (sym (at_old es l j lt)) h)
      ]

  old_reads : (i : ℕ) (m : Line) → i < length es → ReadsFromLine es i m (at es i) → ReadsFromLine (es ++ entry_of es l ∷ []) i m (at (es ++ entry_of es l ∷ []) i)
  old_reads i m lt (inl (w, e)) = inl (w, ap (λ (x : Entry). x.version) (at_old es l i lt) ∙ e)
  old_reads i m lt (inr (j, e, less, h)) =
      inr (
        j,
        ap (λ (x : Entry). x.version) (at_old es l i lt) ∙ e,
        less,
        subst (λ (x : Entry). wrote x m.card.0 m.writer.0 ≡ true) (sym (at_old es l j (omega arith))) h,
      )

  new_own : (at (es ++ entry_of es l ∷ []) (entry_of es l).owner).transaction.0 ≡ l.transaction.0
  new_own = elim (owner_found es l.transaction.0 (length es)) [
    | inl (e, absent) ↦ ap (λ k. (at (es ++ entry_of es l ∷ []) k).transaction.0) e ∙ ap (λ (x : Entry). x.transaction.0) (at_new es l)
    | inr (j, lt, g, e) ↦
        let low = s.owner j lt in
        ap (λ k. (at (es ++ entry_of es l ∷ []) k).transaction.0) e ∙ ap (λ (x : Entry). x.transaction.0) (at_old es l (at es j).owner (omega arith)) ∙ f.own j lt ∙ g
  ]

  new_shared : (i : ℕ) → i < length es → (at es i).transaction.0 ≡ l.transaction.0 → (at es i).owner ≡ (entry_of es l).owner
  new_shared i lt e = elim (owner_found es l.transaction.0 (length es)) [
    | inl (o, absent) ↦ absurd (absent i lt e)
    | inr (j, less, g, o) ↦ f.shared i j lt less (e ∙ sym g) ∙ sym o
  ]

  new_once : (i x t : ℕ) → i < length es → wrote (at es i) x t ≡ true → wrote (entry_of es l) x t ≡ true → ⊥
  new_once i x t lt h n =
      let (rest, xx) = and_parts (is_writ l.kind && eqb l.transaction.0 t) (eqb l.card.0 x) n in
      let (k, tt') = and_parts (is_writ l.kind) (eqb l.transaction.0 t) rest in
      let t-is = eqb-true l.transaction.0 t tt' in
      let x-is = eqb-true l.card.0 x xx in
      let absent = writ_place (kind_writ l.kind k) in
      let old = wrote_some i x t lt h in
      both_ways (some (told is_writ t x) ls) (subst (λ u. some (told is_writ u x) ls ≡ false) t-is (subst (λ u. some (told is_writ l.transaction.0 u) ls ≡ false) x-is absent)) old
    where
      kind_writ : (k : Kind) → is_writ k ≡ true → k ≡ Writ
      kind_writ Read h = let z : ◌≡◌ {A = ℕ} 0 1 = cc in absurd (omega arith)
      kind_writ Writ h = refl
      kind_writ Done h = let z : ◌≡◌ {A = ℕ} 0 1 = cc in absurd (omega arith)
      kind_writ Gone h = let z : ◌≡◌ {A = ℕ} 0 1 = cc in absurd (omega arith)

  pub facts_more : 0 < l.transaction.0 → Facts (ls ++ l ∷ []) (es ++ entry_of es l ∷ [])
  facts_more name = record {
    long = length_snoc es (entry_of es l) ∙ ap suc f.long ∙ sym (length_snoc ls l);
    same = λ i m h. elim (nth_snoc ls l m i h) [
      | inl (lt, old) ↦ subst (λ (x : Entry). Same x m) (sym (at_old es l i (omega (arith, f.long)))) (f.same i m old)
      | inr (e, q) ↦ let z : length es ≡ i = f.long ∙ sym e in
          subst (λ k. Same (at (es ++ entry_of es l ∷ []) k) m) z
          (subst (λ (x : Entry). Same x m) (sym (at_new es l))
          (record { kind = ap (λ (y : Line). y.kind) q; transaction = ap (λ (y : Line). y.transaction.0) q; card = ap (λ (y : Line). y.card.0) q }))
    ];
    named = λ i m h. elim (nth_snoc ls l m i h) [ inl (lt, old) ↦ f.named i m old | inr (e, q) ↦ subst (λ (y : Line). 0 < y.transaction.0) q name ];
    own = λ i lt. elim (old_or_new es l i lt) [
      | inl old ↦ let low = s.owner i old in
          subst (λ (x : Entry). (at (es ++ entry_of es l ∷ []) x.owner).transaction.0 ≡ x.transaction.0) (sym (at_old es l i old))
          (ap (λ (x : Entry). x.transaction.0) (at_old es l (at es i).owner (omega arith)) ∙ f.own i old)
      | inr new ↦ subst (λ k. (at (es ++ entry_of es l ∷ []) (at (es ++ entry_of es l ∷ []) k).owner).transaction.0 ≡ (at (es ++ entry_of es l ∷ []) k).transaction.0) new
          (subst (λ (x : Entry). (at (es ++ entry_of es l ∷ []) x.owner).transaction.0 ≡ x.transaction.0) (sym (at_new es l)) new_own)
    ];
    shared = λ i j lt less. shared_more i j (old_or_new es l i lt) (old_or_new es l j less);
    writ = λ i lt. elim (old_or_new es l i lt) [
      | inl old ↦ subst (λ (x : Entry). x.kind ≡ Writ → x.version ≡ suc i) (sym (at_old es l i old)) (f.writ i old)
      | inr new ↦ subst (λ k. (at (es ++ entry_of es l ∷ []) k).kind ≡ Writ → (at (es ++ entry_of es l ∷ []) k).version ≡ suc k) new
          (subst (λ (x : Entry). x.kind ≡ Writ → x.version ≡ suc (length es)) (sym (at_new es l)) (new_version l.kind))
    ];
    reads = λ i m h k. elim (nth_snoc ls l m i h) [
      | inl (lt, old) ↦ old_reads i m (omega (arith, f.long)) (f.reads i m old k)
      | inr (e, q) ↦ let z : length es ≡ i = f.long ∙ sym e in
          subst (λ n. ReadsFromLine (es ++ entry_of es l ∷ []) n m (at (es ++ entry_of es l ∷ []) n)) z
          (subst (λ (x : Entry). ReadsFromLine (es ++ entry_of es l ∷ []) (length es) m x) (sym (at_new es l))
          (subst (λ (y : Line). ReadsFromLine (es ++ entry_of es l ∷ []) (length es) y (entry_of es l)) q (new_reads (ap (λ (y : Line). y.kind) q ∙ k))))
    ];
    once = λ i j x t lt less. once_more i j x t lt (old_or_new es l j less);
  }
    where
      mixed : (i j : ℕ) → i < length es → length es ≡ j
          → (at (es ++ entry_of es l ∷ []) i).transaction.0 ≡ (at (es ++ entry_of es l ∷ []) j).transaction.0 → (at (es ++ entry_of es l ∷ []) i).owner ≡ (at (es ++ entry_of es l ∷ []) j).owner
      mixed i j a b =
          subst (λ k. (at (es ++ entry_of es l ∷ []) i).transaction.0 ≡ (at (es ++ entry_of es l ∷ []) k).transaction.0 → (at (es ++ entry_of es l ∷ []) i).owner ≡ (at (es ++ entry_of es l ∷ []) k).owner) b
          (subst (λ (x : Entry). x.transaction.0 ≡ (at (es ++ entry_of es l ∷ []) (length es)).transaction.0 → x.owner ≡ (at (es ++ entry_of es l ∷ []) (length es)).owner) (sym (at_old es l i a))
          (subst (λ (y : Entry). (at es i).transaction.0 ≡ y.transaction.0 → (at es i).owner ≡ y.owner) (sym (at_new es l)) (new_shared i a)))

      shared_more : (i j : ℕ) → (i < length es) ⊎ (length es ≡ i) → (j < length es) ⊎ (length es ≡ j)
          → (at (es ++ entry_of es l ∷ []) i).transaction.0 ≡ (at (es ++ entry_of es l ∷ []) j).transaction.0 → (at (es ++ entry_of es l ∷ []) i).owner ≡ (at (es ++ entry_of es l ∷ []) j).owner
      shared_more i j (inl a) (inl b) =
          subst (λ (x : Entry). x.transaction.0 ≡ (at (es ++ entry_of es l ∷ []) j).transaction.0 → x.owner ≡ (at (es ++ entry_of es l ∷ []) j).owner) (sym (at_old es l i a))
          (subst (λ (y : Entry). (at es i).transaction.0 ≡ y.transaction.0 → (at es i).owner ≡ y.owner) (sym (at_old es l j b)) (f.shared i j a b))
      shared_more i j (inl a) (inr b) = mixed i j a b
      shared_more i j (inr a) (inl b) = λ e. sym (mixed j i b a (sym e))
      shared_more i j (inr a) (inr b) = λ e. ap (λ k. (at (es ++ entry_of es l ∷ []) k).owner) (sym a ∙ b)

      once_more : (i j x t : ℕ) → i < j → (j < length es) ⊎ (length es ≡ j) → wrote (at (es ++ entry_of es l ∷ []) i) x t ≡ true → wrote (at (es ++ entry_of es l ∷ []) j) x t ≡ true → ⊥
      once_more i j x t lt (inl b) p q =
          f.once i j x t lt b (subst (λ (y : Entry). wrote y x t ≡ true) (at_old es l i (omega arith)) p) (subst (λ (y : Entry). wrote y x t ≡ true) (at_old es l j b) q)
      once_more i j x t lt (inr b) p q =
          new_once i x t (omega arith) (subst (λ (y : Entry). wrote y x t ≡ true) (at_old es l i (omega arith)) p)
          (subst (λ (y : Entry). wrote y x t ≡ true) (ap (at (es ++ entry_of es l ∷ [])) (sym b) ∙ at_new es l) q)

-- all of it, of the entries of good lines
pub told_sound : {ls : List Line} {es : List Entry} → Told ls es → Sound es
told_sound Told.none = sound_none
told_sound (Told.more {es = es} l t n p) = sound_more es l (told_sound t)

pub told_facts : {ls : List Line} {es : List Entry} → Told ls es → Facts ls es
told_facts Told.none = facts_none
told_facts (Told.more {ls = ls} {es = es} l t n p) = facts_more ls es l (told_facts t) (told_sound t) p n
