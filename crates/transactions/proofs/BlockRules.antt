-- The block of a commit obeys the rules of a history file, behind the lines that stand.
use Rattle.std.proofs.Common.{◌≡◌, ℕ, ◌+◌, ◌<◌, ◌≤◌, Bool, true, false, not, ◌&&◌, ◌||◌, eqb, leb, ◌⊎◌, List, [], ◌∷◌, ◌++◌, length, Some, None, refl, ap, ◌∙◌, subst, inl, inr, arith}
use Rattle.std.specs.List.{slice_get}
use Rattle.std.proofs.lemmas.Bool.{cond-true, and_from, and_left, and_right, or_left, or_right, or_parts, or_from, not_from_false, le-leb, eq-eqb, ne_eqb}
use Rattle.records.specs.declared.kind.Kind.{Kind}
use Rattle.records.specs.declared.kind.Kind.TheVariants as kinds
use Rattle.records.specs.declared.line.Line.{Line}
use Rattle.records.specs.declared.fault.RecordFault.TheVariants as faults
use Rattle.records.specs.Format.{good_transaction, good_card, good_writer, good_words, fault_of}
use Rattle.shelf.specs.Meaning.{Meaning}
use Rattle.rules.specs.Rules.{some, is_read, is_writ, is_end, told, ends, kind_in_place, in_place}
use Rattle.rules.proofs.SomeLaws.{some_holds}
use Rattle.verdicts.specs.Verdicts.{WritAt}
use Rattle.isolation.specs.Account.{has_read, drafted}
use Rattle.transactions.specs.State.{Open}
use Rattle.transactions.proofs.Places.{nth_cases, nth_stays, nth_behind}
use Rattle.transactions.proofs.Obeying.{Obeys}
use Rattle.transactions.proofs.Rows.{row_is, row_has, some_none, obeys_append, obeys_rows}
use Rattle.transactions.proofs.Blocks.{named, read_line, writ_line, done_line, reading_rows, writing_rows, laid_out}

-- a line whose fields pass the four tests is good
good_line : (l : Line) → good_transaction l.transaction.0 ≡ true → good_card l.kind l.card.0 ≡ true
    → good_writer l.kind l.transaction.0 l.writer.0 ≡ true → good_words l.kind l.value ≡ true → fault_of l ≡ None
good_line l t c w v =
    cond-true (good_transaction l.transaction.0) _ (Some faults.Transaction) t
    ∙ cond-true (good_card l.kind l.card.0) _ (Some faults.Card) c
    ∙ cond-true (good_writer l.kind l.transaction.0 l.writer.0) _ (Some faults.Writer) w
    ∙ cond-true (good_words l.kind l.value) None (Some faults.Words) v

none_append : (p : Line → Bool) (xs ys : List Line) → some p xs ≡ false → some p ys ≡ false → some p (xs ++ ys) ≡ false
none_append p [] ys e q = q
none_append p (x ∷ xs) ys e q =
    let (a, b) = or_parts (p x) (some p xs) e in
    or_from (p x) (some p (xs ++ ys)) a (none_append p xs ys b q)

-- what the block's rules need of the lines before it
pub record Fit (before : List Line) (m : Meaning) (o : Open) (n : ℕ) : Type 0 where
  pub fresh : (i : ℕ) (l : Line) → slice_get before i ≡ Some l → l.transaction.0 ≡ o.number → ⊥
  pub numbered : (0 < o.number) × (o.number ≤ 1000000)
  pub few : n ≤ 256
  pub has_reading : (x : ℕ) → drafted o.drafts x ≡ true → has_read o.reads x ≡ true
  pub small : (x : ℕ) → x < n → has_read o.reads x ≡ true → named m o x ≤ 1000000
  pub another : (x : ℕ) → x < n → has_read o.reads x ≡ true → named m o x ≡ o.number → ⊥
  pub written : (x : ℕ) → x < n → has_read o.reads x ≡ true → (named m o x ≡ 0) ⊎ ((j : ℕ) × WritAt before j (named m o x) x)

module _ (before : List Line) (m : Meaning) (o : Open) (n : ℕ) (f : Fit before m o n) where
  good_number : good_transaction o.number ≡ true
  good_number =
      and_from (leb 1 o.number) (leb o.number 1000000) (le-leb 1 o.number f.numbered.0) (le-leb o.number 1000000 f.numbered.1)

  small_card : (x : ℕ) → x < n → leb x 255 ≡ true
  small_card x lt = le-leb x 255 (omega (arith, f.few))

  -- tests that no line before passes
  no_end : (i : ℕ) (l : Line) → slice_get before i ≡ Some l → ends o.number l ≡ false
  no_end i l e = and_right (is_end l.kind) (eqb l.transaction.0 o.number) (ne_eqb l.transaction.0 o.number (f.fresh i l e))

  no_told : (k : Kind → Bool) (x i : ℕ) (l : Line) → slice_get before i ≡ Some l → told k o.number x l ≡ false
  no_told k x i l e =
      and_left (k l.kind && eqb l.transaction.0 o.number) (eqb l.card.0 x)
      (and_right (k l.kind) (eqb l.transaction.0 o.number) (ne_eqb l.transaction.0 o.number (f.fresh i l e)))

  other_card : (b : Bool) (y x : ℕ) → y < x → (b && eqb y x) ≡ false
  other_card b y x lt = and_right b (eqb y x) (ne_eqb y x (omega arith))

  -- a test over the lines before, with the READs and WRITs below a card
  none_reads : (p : Line → Bool) (k : ℕ) → ((i : ℕ) (l : Line) → slice_get before i ≡ Some l → p l ≡ false)
      → ((y : ℕ) → y < k → p (read_line m o y) ≡ false) → some p (before ++ reading_rows m o k) ≡ false
  none_reads p k a b = some_none p (before ++ reading_rows m o k) (λ i l e. go i l (nth_cases before (reading_rows m o k) i l e))
    where
      go : (i : ℕ) (l : Line) → (slice_get before i ≡ Some l) ⊎ ((j : ℕ) × (i ≡ length before + j) × (slice_get (reading_rows m o k) j ≡ Some l)) → p l ≡ false
      go i l (inl e) = a i l e
      go i l (inr (j, q, e)) =
          let (y, lt, h, r) = row_is (has_read o.reads) (read_line m o) k j l e in
          subst (λ z. p z ≡ false) r (b y lt)

  none_writs : (p : Line → Bool) (k : ℕ) → some p (before ++ reading_rows m o n) ≡ false → ((y : ℕ) → y < k → p (writ_line o y) ≡ false)
      → some p ((before ++ reading_rows m o n) ++ writing_rows o k) ≡ false
  none_writs p k a b =
      none_append p (before ++ reading_rows m o n) (writing_rows o k) a rest
    where
      rest : some p (writing_rows o k) ≡ false
      rest = some_none p (writing_rows o k) (λ j l e.
          let (y, lt, h, r) = row_is (drafted o.drafts) (writ_line o) k j l e in
          subst (λ z. p z ≡ false) r (b y lt))

  -- each READ is in place
  read_obeys : (x : ℕ) → x < n → has_read o.reads x ≡ true
      → (fault_of (read_line m o x) ≡ None) × (in_place (before ++ reading_rows m o x) (read_line m o x) ≡ true)
  read_obeys x lt h = (
    good_line (read_line m o x) good_number (small_card x lt) (le-leb (named m o x) 1000000 (f.small x lt h)) refl,
    and_from (not (some (ends o.number) (before ++ reading_rows m o x))) (kind_in_place kinds.Read (before ++ reading_rows m o x) (read_line m o x))
        (not_from_false (some (ends o.number) (before ++ reading_rows m o x)) (none_reads (ends o.number) x no_end (λ y q. refl)))
        (and_from (not (some (told is_read o.number x) (before ++ reading_rows m o x)) && not (eqb (named m o x) o.number))
        (eqb (named m o x) 0 || some (told is_writ (named m o x) x) (before ++ reading_rows m o x))
        (and_from (not (some (told is_read o.number x) (before ++ reading_rows m o x))) (not (eqb (named m o x) o.number))
        (not_from_false (some (told is_read o.number x) (before ++ reading_rows m o x))
        (none_reads (told is_read o.number x) x (no_told is_read x) (λ y q. other_card (true && eqb o.number o.number) y x q)))
        (not_from_false (eqb (named m o x) o.number) (ne_eqb (named m o x) o.number (f.another x lt h))))
        (source (f.written x lt h))),
  )
    where
      source : (named m o x ≡ 0) ⊎ ((j : ℕ) × WritAt before j (named m o x) x)
          → (eqb (named m o x) 0 || some (told is_writ (named m o x) x) (before ++ reading_rows m o x)) ≡ true
      source (inl e) = or_left (eqb (named m o x) 0) (some (told is_writ (named m o x) x) (before ++ reading_rows m o x)) (eq-eqb (named m o x) 0 e)
      source (inr (j, w)) =
          or_right (eqb (named m o x) 0) (some (told is_writ (named m o x) x) (before ++ reading_rows m o x))
          (some_holds (told is_writ (named m o x) x) (before ++ reading_rows m o x) j w.stands.line
          (nth_stays before (reading_rows m o x) j w.stands.line w.stands.at)
          (and_from (is_writ w.stands.line.kind && eqb w.stands.line.transaction.0 (named m o x)) (eqb w.stands.line.card.0 x)
          (and_from (is_writ w.stands.line.kind) (eqb w.stands.line.transaction.0 (named m o x))
          (ap is_writ w.stands.kind) (eq-eqb w.stands.line.transaction.0 (named m o x) w.stands.by))
          (eq-eqb w.stands.line.card.0 x w.card)))

  -- and so is each WRIT
  writ_obeys : (x : ℕ) → x < n → drafted o.drafts x ≡ true
      → (fault_of (writ_line o x) ≡ None) × (in_place ((before ++ reading_rows m o n) ++ writing_rows o x) (writ_line o x) ≡ true)
  writ_obeys x lt d = (
    good_line (writ_line o x) good_number (small_card x lt) (eq-eqb o.number o.number refl) refl,
    and_from (not (some (ends o.number) ((before ++ reading_rows m o n) ++ writing_rows o x)))
        (kind_in_place kinds.Writ ((before ++ reading_rows m o n) ++ writing_rows o x) (writ_line o x))
        (not_from_false (some (ends o.number) ((before ++ reading_rows m o n) ++ writing_rows o x))
        (none_writs (ends o.number) x (none_reads (ends o.number) n no_end (λ y q. refl)) (λ y q. refl)))
        (and_from (some (told is_read o.number x) ((before ++ reading_rows m o n) ++ writing_rows o x))
        (not (some (told is_writ o.number x) ((before ++ reading_rows m o n) ++ writing_rows o x)))
        own
        (not_from_false (some (told is_writ o.number x) ((before ++ reading_rows m o n) ++ writing_rows o x))
        (none_writs (told is_writ o.number x) x (none_reads (told is_writ o.number x) n (no_told is_writ x) (λ y q. refl))
        (λ y q. other_card (true && eqb o.number o.number) y x q)))),
  )
    where
      own : some (told is_read o.number x) ((before ++ reading_rows m o n) ++ writing_rows o x) ≡ true
      own =
          let (i, e) = row_has (has_read o.reads) (read_line m o) n x lt (f.has_reading x d) in
          some_holds (told is_read o.number x) ((before ++ reading_rows m o n) ++ writing_rows o x) (length before + i) (read_line m o x)
          (nth_stays (before ++ reading_rows m o n) (writing_rows o x) (length before + i) (read_line m o x)
          (nth_behind before (reading_rows m o n) i ∙ e))
          (and_from (true && eqb o.number o.number) (eqb x x)
          (and_from true (eqb o.number o.number) refl (eq-eqb o.number o.number refl)) (eq-eqb x x refl))

  done_obeys : Obeys ((before ++ reading_rows m o n) ++ writing_rows o n) (done_line o ∷ [])
  done_obeys = (
    good_line (done_line o) good_number refl refl refl,
    and_from (not (some (ends o.number) ((before ++ reading_rows m o n) ++ writing_rows o n))) true
        (not_from_false (some (ends o.number) ((before ++ reading_rows m o n) ++ writing_rows o n))
        (none_writs (ends o.number) n (none_reads (ends o.number) n no_end (λ y q. refl)) (λ y q. refl)))
        refl,
    tt,
  )

  pub block_obeys : Obeys before (laid_out m o n)
  block_obeys =
      obeys_append before (reading_rows m o n) (writing_rows o n ++ (done_line o ∷ []))
      (obeys_rows before (has_read o.reads) (read_line m o) n read_obeys)
      (obeys_append (before ++ reading_rows m o n) (writing_rows o n) (done_line o ∷ [])
      (obeys_rows (before ++ reading_rows m o n) (drafted o.drafts) (writ_line o) n writ_obeys) done_obeys)
