-- Lines of the first records, one more at a time. Assumes nothing.
use Rattle.std.proofs.Common.{◌≡◌, ℕ, zero, suc, ◌+◌, ◌-◌, ◌<◌, ◌≤◌, Bool, true, false, ◌&&◌, ◌||◌, eqb, List, [], ◌∷◌, ◌++◌, is_ok, Ok, Err, Result, sym, refl, ap, ◌∙◌, subst, ⊎_elim, inl, inr, eq-eqb, add-one, arith, length-append}
use Rattle.std.proofs.str.Laws.{order}
use Rattle.std.specs.Result.{result_ok}
use Rattle.std.specs.Option.{option_to_list}
use Rattle.records.specs.declared.line.Line.{Line}
use Rattle.records.specs.declared.fault.RecordFault.{RecordFault}
use Rattle.records.specs.declared.kind.Kind.{Kind}
use Rattle.records.specs.declared.kind.Kind.TheVariants as Kinds
use Rattle.records.specs.Format.{decoded, good_card, placed_at}
use Rattle.records.specs.Parts.{part}
use Rattle.rules.specs.Rules.{some, is_read, is_writ, is_end}
use Rattle.scan.specs.Scanning.{Readable, lines_of, deed_told, deed_card, node, Seen}
use Rattle.scan.specs.declared.deed.Deed.{Deed}
use Rattle.scan.specs.declared.deed.Deed.TheVariants.{Ended, Read, Written}
use Rattle.stamps.specs.declared.numbers.TxNo.{TxNo}
use Rattle.reach.specs.Links.{from, leaves}
use Rattle.std.proofs.lemmas.Bool.{cases_Bool}
use Rattle.std.proofs.lemmas.Bool.Decides.{eqb_tells}
use Rattle.std.proofs.lemmas.List.{get_or_append_left, get_or_at}

or_false : (a : Bool) → (a || false) ≡ a
or_false true = refl
or_false false = refl

or_assoc : (a b c : Bool) → ((a || b) || c) ≡ (a || (b || c))
or_assoc true b c = refl
or_assoc false b c = refl

pub some_push : (p : Line → Bool) (ls : List Line) (l : Line) → some p (ls ++ l ∷ []) ≡ (some p ls || p l)
some_push p [] l = or_false (p l)
some_push p (x ∷ ls) l = ap (λ b. p x || b) (some_push p ls l) ∙ sym (or_assoc (p x) (some p ls) (p l))

pub lines_more : (bs : List ℕ) (n : ℕ) (l : Line) → decoded (part bs n) ≡ Ok l → lines_of bs (n + 1) ≡ lines_of bs n ++ l ∷ []
lines_more bs n l e = rw add-one (ap (λ r. lines_of bs n ++ option_to_list (result_ok r)) e)

pub some_more : (p : Line → Bool) (bs : List ℕ) (n : ℕ) (l : Line) → decoded (part bs n) ≡ Ok l → some p (lines_of bs (n + 1)) ≡ (some p (lines_of bs n) || p l)
some_more p bs n l e = ap (some p) (lines_more bs n l e) ∙ some_push p (lines_of bs n) l

or_right : (a b : Bool) → b ≡ true → (a || b) ≡ true
or_right true b e = refl
or_right false b e = e

or_grows : (a b c : Bool) → (a || b) ≡ true → (b ≡ true → c ≡ true) → (a || c) ≡ true
or_grows true b c e h = refl
or_grows false b c e h = h e

some_append_left : (p : Line → Bool) (xs ys : List Line) → some p xs ≡ true → some p (xs ++ ys) ≡ true
some_append_left p [] ys e = let z : ◌≡◌ {A = ℕ} 0 1 = cc in absurd (omega arith)
some_append_left p (x ∷ xs) ys e = or_grows (p x) (some p xs) (some p (xs ++ ys)) e (λ h. some_append_left p xs ys h)

-- what some of the first records tell, more of them tell
pub some_later : (p : Line → Bool) (bs : List ℕ) (m n : ℕ) → some p (lines_of bs m) ≡ true → some p (lines_of bs (n + m)) ≡ true
some_later p bs m zero e = let q : m ≡ zero + m = omega arith in subst (λ k. some p (lines_of bs k) ≡ true) q e
some_later p bs m (suc n) e =
    let q : suc (n + m) ≡ suc n + m = omega arith in
    subst (λ k. some p (lines_of bs k) ≡ true) q (some_append_left p (lines_of bs (n + m)) (option_to_list (result_ok (decoded (part bs (n + m))))) (some_later p bs m n e))

pub some_here : (p : Line → Bool) (bs : List ℕ) (i n : ℕ) (l : Line) → i < n → decoded (part bs i) ≡ Ok l → p l ≡ true → some p (lines_of bs n) ≡ true
some_here p bs i n l lt e q =
    let m : (n - (i + 1)) + (i + 1) ≡ n = omega arith in
    subst (λ k. some p (lines_of bs k) ≡ true) m (some_later p bs (i + 1) (n - (i + 1)) (some_more p bs i l e ∙ or_right (some p (lines_of bs i)) (p l) q))

pub none_more : (p : Line → Bool) (bs : List ℕ) (n : ℕ) (l : Line) → decoded (part bs n) ≡ Ok l → some p (lines_of bs n) ≡ false → p l ≡ false → some p (lines_of bs (n + 1)) ≡ false
none_more p bs n l is a b = some_more p bs n l is ∙ ap (λ y. y || p l) a ∙ b

two : (a p : Bool) → p ≡ false → (a && p) ≡ false
two true p e = e
two false p e = refl

three : (a p c : Bool) → p ≡ false → (a && p && c) ≡ false
three true true c e = let z : ◌≡◌ {A = ℕ} 0 1 = cc in absurd (omega arith)
three true false c e = refl
three false p c e = refl

last_of_three : (a b p : Bool) → p ≡ false → (a && b && p) ≡ false
last_of_three true true p e = e
last_of_three true false p e = refl
last_of_three false b p e = refl

unequal : (a b : ℕ) → (a ≡ b → ⊥) → eqb a b ≡ false
unequal a b apart = ⊎_elim
    (λ (h : (eqb a b ≡ true) × (a ≡ b)). absurd (apart h.1))
    (λ (h : (eqb a b ≡ false) × (a ≡ b → ⊥)). h.0) (eqb_tells a b)

pub apart_from : (a b : ℕ) → eqb a b ≡ false → a ≡ b → ⊥
apart_from a b differ same = let z : true ≡ false = sym (eq-eqb a b same) ∙ differ in absurd (cc)

-- a record without a bad field reads as a line
pub read_as_line : (r : Result Line RecordFault) → is_ok r ≡ true → (l : Line) × (r ≡ Ok l)
read_as_line (Ok l) e = (l, refl)
read_as_line (Err f) e = let z : ◌≡◌ {A = ℕ} 0 1 = cc in absurd (omega arith)

-- the line that is read at a place is the record's
pub read_there : (i : ℕ) (r : Result Line RecordFault) (l : Line) → Ok l ≡ placed_at i r → r ≡ Ok l
read_there i (Ok m) l e = cc
read_there i (Err f) l e = let z : ◌≡◌ {A = ℕ} 0 1 = cc in absurd (omega arith)

-- one record more has no bad field
pub readable_more : (bs : List ℕ) (n : ℕ) (l : Line) → Readable bs n → decoded (part bs n) ≡ Ok l → Readable bs (n + 1)
readable_more bs n l good is i lt =
    ⊎_elim
    (λ (below : i < n). good i below)
    (λ (ge : n ≤ i). let same : n ≡ i = omega arith in subst (λ k. is_ok (decoded (part bs k)) ≡ true) same (ap is_ok is))
    (order i n)

-- a line of another transaction tells nothing of this one
pub untold : (d : Deed) (t : ℕ) (l : Line) → eqb l.transaction.0 t ≡ false → deed_told d t l ≡ false
untold Ended t l other = two (is_end l.kind) (eqb l.transaction.0 t) other
untold (Read x) t l other = three (is_read l.kind) (eqb l.transaction.0 t) (eqb l.card.0 x.0) other
untold (Written x) t l other = three (is_writ l.kind) (eqb l.transaction.0 t) (eqb l.card.0 x.0) other

-- a line of another card does not tell it, since an end has card 0
pub off_card : (d : Deed) (t : ℕ) (l : Line) → good_card l.kind l.card.0 ≡ true → (l.card.0 ≡ deed_card d → ⊥) → deed_told d t l ≡ false
off_card Ended t l fit apart = ending l.kind l.card.0 (eqb l.transaction.0 t) fit (unequal l.card.0 0 apart)
  where
    ending : (k : Kind) (x : ℕ) (own : Bool) → good_card k x ≡ true → eqb x 0 ≡ false → (is_end k && own) ≡ false
    ending Kinds.Read x own fit other = refl
    ending Kinds.Writ x own fit other = refl
    ending Kinds.Done x own fit other = let z : ◌≡◌ {A = ℕ} 0 1 = cc in absurd (omega arith)
    ending Kinds.Gone x own fit other = let z : ◌≡◌ {A = ℕ} 0 1 = cc in absurd (omega arith)
off_card (Read x) t l fit apart = last_of_three (is_read l.kind) (eqb l.transaction.0 t) (eqb l.card.0 x.0) (unequal l.card.0 x.0 apart)
off_card (Written x) t l fit apart = last_of_three (is_writ l.kind) (eqb l.transaction.0 t) (eqb l.card.0 x.0) (unequal l.card.0 x.0 apart)

-- one of the first n records, whose line passes the test
abbrev pub Telling : (Line → Bool) → List ℕ → ℕ → ℕ → Type 0
Telling p bs n i = (i < n) × ((l : Line) × (decoded (part bs i) ≡ Ok l) × (p l ≡ true))

-- a record that tells something of a transaction is linked under the transaction's node
pub linked_there : (bs : List ℕ) (n : ℕ) (es : List (ℕ × ℕ)) (d : Deed) (t : ℕ) → Seen bs n es → (i : ℕ) → Telling (deed_told d t) bs n i → leaves es (node t) i ≡ true
linked_there bs n es d t s i (lt, (l, is, tells)) =
    ⊎_elim
    (λ (h : (eqb l.transaction.0 t ≡ true) × (l.transaction.0 ≡ t)). eq-eqb (from es i) (node t) (s.by i l lt is ∙ ap node h.1))
    (λ (h : (eqb l.transaction.0 t ≡ false) × (l.transaction.0 ≡ t → ⊥)). let z : true ≡ false = sym tells ∙ untold d t l h.0 in absurd (cc))
    (eqb_tells l.transaction.0 t)

-- none of the first records tells it, so none of their lines does
pub none_of_all : (p : Line → Bool) (bs : List ℕ) (n : ℕ) → Readable bs n → ((i : ℕ) → i < n → Telling p bs n i → ⊥) → some p (lines_of bs n) ≡ false
none_of_all p bs n good none = go n (λ i lt. lt)
  where
    fails : (i : ℕ) (l : Line) → i < n → decoded (part bs i) ≡ Ok l → p l ≡ false
    fails i l lt is = elim (cases_Bool (p l)) [ inl passes ↦ absurd (none i lt (lt, (l, is, passes))) | inr fails' ↦ fails' ]

    go : (m : ℕ) → ((i : ℕ) → i < m → i < n) → some p (lines_of bs m) ≡ false
    go zero low = refl
    go (suc m) low =
        let lt = low m (omega arith) in
        let (l, e) = read_as_line (decoded (part bs m)) (good m lt) in
        let step : m + 1 ≡ suc m = omega arith in
        subst (λ k. some p (lines_of bs k) ≡ false) step (none_more p bs m l e (go m (λ i small. low i (omega arith))) (fails m l lt e))

-- one record more is linked
pub seen_more : (bs : List ℕ) (n : ℕ) (es : List (ℕ × ℕ)) (t : TxNo) → Seen bs n es → ((l : Line) → decoded (part bs n) ≡ Ok l → l.transaction ≡ t)
    → Seen bs (suc n) (es ++ (node t.0, n) ∷ [])
seen_more bs n es t s is = record {
  each = length-append es ((node t.0, n) ∷ []) ∙ omega (arith, s.each);
  by = λ k l lt e. ⊎_elim
      (λ (below : k < n). ap (λ (p : ℕ × ℕ). p.0) (get_or_append_left es ((node t.0, n) ∷ []) (0, 0) k (omega (arith, s.each))) ∙ s.by k l below e)
      (λ (ge : n ≤ k).
      let same : k ≡ n = omega arith in
      ap (λ (p : ℕ × ℕ). p.0) (get_or_at es (node t.0, n) [] (0, 0) k (s.each ∙ sym same))
      ∙ ap (λ (u : TxNo). node u.0) (sym (is l (subst (λ m. decoded (part bs m) ≡ Ok l) same e))))
      (order k n);
}
