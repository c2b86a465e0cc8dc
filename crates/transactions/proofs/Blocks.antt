-- What stands in the block of lines that a commit writes.
use Rattle.std.proofs.Common.{◌≡◌, ℕ, zero, suc, ◌+◌, ◌<◌, true, cond, ◌⊎◌, List, [], ◌∷◌, ◌++◌, length, Some, sym, refl, ap, ◌∙◌, subst, inl, inr, arith}
use Rattle.std.specs.List.{slice_get}
use Rattle.records.specs.declared.kind.Kind.TheVariants as kinds
use Rattle.records.specs.declared.line.Line.{Line}
use Rattle.records.specs.Format.{no_words}
use Rattle.stamps.specs.Blank.{blank}
use Rattle.shelf.specs.Meaning.{Meaning}
use Rattle.verdicts.specs.Verdicts.{Stands, WritAt, ReadAt}
use Rattle.isolation.specs.Account.{has_read, drafted, draft_of}
use Rattle.transactions.specs.State.{Open}
use Rattle.transactions.specs.Choosing.{version_read}
use Rattle.transactions.specs.Committing.{line, writer_at, read_lines, writ_lines, block}
use Rattle.transactions.proofs.Places.{none_some, some_same, nth_cases, nth_stays, nth_behind}
use Rattle.transactions.proofs.Rows.{rows, row_is, row_has, row_once}

abbrev pub named : Meaning → Open → ℕ → ℕ
named m o x = writer_at m x (version_read o.reads x)

abbrev pub read_line : Meaning → Open → ℕ → Line
read_line m o x = line kinds.Read o.number x (named m o x) no_words

abbrev pub writ_line : Open → ℕ → Line
writ_line o x = line kinds.Writ o.number x o.number (draft_of o.drafts x blank)

abbrev pub done_line : Open → Line
done_line o = line kinds.Done o.number 0 0 no_words

abbrev pub reading_rows : Meaning → Open → ℕ → List Line
reading_rows m o n = rows (has_read o.reads) (read_line m o) n

abbrev pub writing_rows : Open → ℕ → List Line
writing_rows o n = rows (drafted o.drafts) (writ_line o) n

abbrev pub laid_out : Meaning → Open → ℕ → List Line
laid_out m o n = reading_rows m o n ++ (writing_rows o n ++ (done_line o ∷ []))

read_rows : (m : Meaning) (o : Open) (n : ℕ) → read_lines m o n ≡ reading_rows m o n
read_rows m o zero = refl
read_rows m o (suc n) = ap (λ ls. ls ++ cond (has_read o.reads n) (read_line m o n ∷ []) []) (read_rows m o n)

writ_rows : (o : Open) (n : ℕ) → writ_lines o n ≡ writing_rows o n
writ_rows o zero = refl
writ_rows o (suc n) = ap (λ ls. ls ++ cond (drafted o.drafts n) (writ_line o n ∷ []) []) (writ_rows o n)

pub block_laid_out : (m : Meaning) (o : Open) (n : ℕ) → block m o n ≡ laid_out m o n
block_laid_out m o n =
    ap (λ ls. ls ++ (writ_lines o n ++ (done_line o ∷ []))) (read_rows m o n)
    ∙ ap (λ ls. reading_rows m o n ++ (ls ++ (done_line o ∷ []))) (writ_rows o n)

-- a line of the block, and where a WRIT stands
pub data BlockLine (m : Meaning) (o : Open) (n i : ℕ) : Line → Type 0 where
  a_read : (x : ℕ) → x < n → has_read o.reads x ≡ true → BlockLine m o n i (read_line m o x)
  a_writ : (x j : ℕ) → x < n → drafted o.drafts x ≡ true → i ≡ length (reading_rows m o n) + j
      → slice_get (writing_rows o n) j ≡ Some (writ_line o x) → BlockLine m o n i (writ_line o x)
  a_done : BlockLine m o n i (done_line o)

module _ (m : Meaning) (o : Open) (n : ℕ) where
  pub block_line : (i : ℕ) (l : Line) → slice_get (laid_out m o n) i ≡ Some l → BlockLine m o n i l
  block_line i l e = go (nth_cases (reading_rows m o n) (writing_rows o n ++ (done_line o ∷ [])) i l e)
    where
      last : (j : ℕ) → slice_get (done_line o ∷ []) j ≡ Some l → BlockLine m o n i l
      last zero q = subst (BlockLine m o n i) (some_same q) a_done
      last (suc j) q = absurd (none_some q)

      behind : (j : ℕ) → i ≡ length (reading_rows m o n) + j
          → (slice_get (writing_rows o n) j ≡ Some l) ⊎ ((k : ℕ) × (j ≡ length (writing_rows o n) + k) × (slice_get (done_line o ∷ []) k ≡ Some l))
          → BlockLine m o n i l
      behind j p (inl q) =
          let (x, lt, h, r) = row_is (drafted o.drafts) (writ_line o) n j l q in
          subst (BlockLine m o n i) r (a_writ x j lt h p (q ∙ ap Some (sym r)))
      behind j p (inr (k, q, r)) = last k r

      go : (slice_get (reading_rows m o n) i ≡ Some l)
          ⊎ ((j : ℕ) × (i ≡ length (reading_rows m o n) + j) × (slice_get (writing_rows o n ++ (done_line o ∷ [])) j ≡ Some l)) → BlockLine m o n i l
      go (inl q) =
          let (x, lt, h, r) = row_is (has_read o.reads) (read_line m o) n i l q in
          subst (BlockLine m o n i) r (a_read x lt h)
      go (inr (j, p, q)) = behind j p (nth_cases (writing_rows o n) (done_line o ∷ []) j l q)

  pub block_by : (i : ℕ) (l : Line) → slice_get (laid_out m o n) i ≡ Some l → l.transaction.0 ≡ o.number
  block_by i l e = go l (block_line i l e)
    where
      go : (k : Line) → BlockLine m o n i k → k.transaction.0 ≡ o.number
      go _ (a_read x lt h) = refl
      go _ (a_writ x j lt h p q) = refl
      go _ a_done = refl

  pub record Block-writ (i x : ℕ) : Type 0 where
    pub within : x < n
    pub draft : drafted o.drafts x ≡ true
    pub row : ℕ
    pub place : i ≡ length (reading_rows m o n) + row
    pub stands : slice_get (writing_rows o n) row ≡ Some (writ_line o x)

  pub block_writ : (i u x : ℕ) → WritAt (laid_out m o n) i u x → Block-writ i x
  block_writ i u x w = go w.stands.line (block_line i w.stands.line w.stands.at) w.stands.kind w.card
    where
      go : (l : Line) → BlockLine m o n i l → l.kind ≡ kinds.Writ → l.card.0 ≡ x → Block-writ i x
      go _ (a_read y lt h) k c = let z : ◌≡◌ {A = ℕ} 0 1 = cc in absurd (omega arith)
      go _ (a_writ y j lt h p q) k c =
          subst (Block-writ i) c (record { within = lt; draft = h; row = j; place = p; stands = q })
      go _ a_done k c = let z : ◌≡◌ {A = ℕ} 0 1 = cc in absurd (omega arith)

  pub block_once : (i j u v x : ℕ) → WritAt (laid_out m o n) i u x → WritAt (laid_out m o n) j v x → i ≡ j
  block_once i j u v x p q =
      let a : Block-writ i x = block_writ i u x p in
      let b : Block-writ j x = block_writ j v x q in
      let e : a.row ≡ b.row
      = row_once (drafted o.drafts) (writ_line o) (λ y. refl) n a.row b.row (writ_line o x) (writ_line o x)
      a.stands b.stands refl in
      omega (arith, a.place, b.place)

  pub block_read : (i u x w : ℕ) → ReadAt (laid_out m o n) i u x w → (x < n) × (has_read o.reads x ≡ true) × (named m o x ≡ w)
  block_read i u x w r = go r.stands.line (block_line i r.stands.line r.stands.at) r.stands.kind r.card r.writer
    where
      go : (l : Line) → BlockLine m o n i l → l.kind ≡ kinds.Read → l.card.0 ≡ x → l.writer.0 ≡ w
          → (x < n) × (has_read o.reads x ≡ true) × (named m o x ≡ w)
      go _ (a_read y lt h) k c e = subst (λ z. (z < n) × (has_read o.reads z ≡ true) × (named m o z ≡ w)) c (lt, h, e)
      go _ (a_writ y j lt h p q) k c e = let z : ◌≡◌ {A = ℕ} 0 1 = cc in absurd (omega arith)
      go _ a_done k c e = let z : ◌≡◌ {A = ℕ} 0 1 = cc in absurd (omega arith)

  -- each draft, each read and the end have a line
  pub has_writ : (x : ℕ) → x < n → drafted o.drafts x ≡ true → (j : ℕ) × WritAt (laid_out m o n) j o.number x
  has_writ x lt d =
      let (i, e) = row_has (drafted o.drafts) (writ_line o) n x lt d in (
        length (reading_rows m o n) + i,
        record {
          stands = record {
            line = writ_line o x;
            at = nth_behind (reading_rows m o n) (writing_rows o n ++ (done_line o ∷ [])) i
                ∙ nth_stays (writing_rows o n) (done_line o ∷ []) i (writ_line o x) e;
            kind = refl;
            by = refl;
          };
          card = refl;
        },
      )

  pub has_reads : (x : ℕ) → x < n → has_read o.reads x ≡ true → (i : ℕ) × ReadAt (laid_out m o n) i o.number x (named m o x)
  has_reads x lt d =
      let (i, e) = row_has (has_read o.reads) (read_line m o) n x lt d in (
        i,
        record {
          stands = record {
            line = read_line m o x;
            at = nth_stays (reading_rows m o n) (writing_rows o n ++ (done_line o ∷ [])) i (read_line m o x) e;
            kind = refl;
            by = refl;
          };
          card = refl;
          writer = refl;
        },
      )

  pub has_done : (i : ℕ) × Stands (laid_out m o n) i kinds.Done o.number
  has_done = (
    length (reading_rows m o n) + (length (writing_rows o n) + 0),
    record {
      line = done_line o;
      at = nth_behind (reading_rows m o n) (writing_rows o n ++ (done_line o ∷ [])) (length (writing_rows o n) + 0)
          ∙ nth_behind (writing_rows o n) (done_line o ∷ []) 0;
      kind = refl;
      by = refl;
    },
  )
