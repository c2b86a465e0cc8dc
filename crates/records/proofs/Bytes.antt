-- Numbers as bytes and back. Assumes nothing.
use Rattle.std.proofs.Common.{◌≡◌, ℕ, ◌+◌, ◌^◌, ◌<◌, ◌≤◌, List, ◌++◌, length, get_or, w32, w64, sym, ap, ◌∙◌, ⊎_elim, arith, take_all, take-add}
use Rattle.std.proofs.lemmas.Bool.{cases_lt}
use Rattle.std.proofs.lemmas.List.{get_or_past}
use Rattle.std.specs.Int.{from_be_bytes}
use Rattle.std.specs.List.{between}
use Rattle.std.proofs.lemmas.List.Edits.{get_or-between, length-between}
use Rattle.std.proofs.lemmas.Nat.{be_bytes_4, be_bytes_8, from_be_bytes-to_be_bytes_4, from_be_bytes-to_be_bytes_8}
use Rattle.records.specs.declared.line.Line.{Line}
use Rattle.records.specs.Format.{number_at, bytes_of, line_behind, fields_of}

-- v is the number that the n bytes of bs from place `at` write, and is written back as them
pub record Stands (bs : List ℕ) (at n v : ℕ) : Type 0 where
  pub value : v ≡ number_at bs at n
  pub back : bytes_of n v ≡ between at (at + n) bs

module _ (bs xs : List ℕ) (at v : ℕ) (small : (i : ℕ) → get_or bs i 0 < 256) where
  byte : (n : ℕ) → xs ≡ between at (at + n) bs → (i : ℕ) → i < n → get_or xs i 0 ≡ get_or bs (at + i) 0
  byte n is i lt = ap (λ (ys : List ℕ). get_or ys i 0) is ∙ get_or-between bs at (at + n) i 0 (omega arith)

  long : (n : ℕ) → at + n ≤ length bs → xs ≡ between at (at + n) bs → length xs ≡ n
  long n fit is = ap length is ∙ length-between bs at (at + n) fit ∙ omega arith

  low : (n : ℕ) → at + n ≤ length bs → xs ≡ between at (at + n) bs → (i : ℕ) → get_or xs i 0 < 256
  low n fit is i =
      ⊎_elim
      (λ (lt : i < n). omega (arith, byte n is i lt, small (at + i)))
      (λ (past : n ≤ i). omega (arith, get_or_past xs i 0 (omega (arith, long n fit is))))
      (cases_lt i n)

  pub four_stand : at + 4 ≤ length bs → xs ≡ between at (at + 4) bs → v ≡ from_be_bytes w32 xs → Stands bs at 4 v
  four_stand fit is e = record {
    value = e ∙ omega (arith, byte 4 is 0 (omega arith), byte 4 is 1 (omega arith), byte 4 is 2 (omega arith), byte 4 is 3 (omega arith));
    back = be_bytes_4 xs v (long 4 fit is) (low 4 fit is) e ∙ is;
  }

  pub eight_stand : at + 8 ≤ length bs → xs ≡ between at (at + 8) bs → v ≡ from_be_bytes w64 xs → Stands bs at 8 v
  eight_stand fit is e = record {
    value = e
        ∙ omega (arith, byte 8 is 0 (omega arith), byte 8 is 1 (omega arith), byte 8 is 2 (omega arith), byte 8 is 3 (omega arith), byte 8 is 4 (omega arith), byte 8 is 5 (omega arith), byte 8 is 6 (omega arith), byte 8 is 7 (omega arith));
    back = be_bytes_8 xs v (long 8 fit is) (low 8 fit is) e ∙ is;
  }

-- what fits is read back
four_back : (v : ℕ) → v < 2 ^ 32 → number_at (bytes_of 4 v) 0 4 ≡ v
four_back v fits = omega arith ∙ from_be_bytes-to_be_bytes_4 v fits

eight_back : (v : ℕ) → v < 2 ^ 64 → number_at (bytes_of 8 v) 0 8 ≡ v
eight_back v fits = omega arith ∙ from_be_bytes-to_be_bytes_8 v fits

-- the fields' bytes one behind the other are all the bytes behind the letters
pub fields_back : (rest : List ℕ) {t x w f s : ℕ} → length rest ≡ 28 → Stands rest 0 4 t → Stands rest 4 4 x → Stands rest 8 4 w → Stands rest 12 8 f
    → Stands rest 20 8 s → bytes_of 4 t ++ bytes_of 4 x ++ bytes_of 4 w ++ bytes_of 8 f ++ bytes_of 8 s ≡ rest
fields_back rest size t x w f s =
    (λ i. t.back i ++ x.back i ++ w.back i ++ f.back i ++ s.back i)
    ∙ ap (λ (l : List ℕ). l ++ between 8 12 rest ++ between 12 20 rest ++ between 20 28 rest) (sym (take-add 4 4 rest))
    ∙ ap (λ (l : List ℕ). l ++ between 12 20 rest ++ between 20 28 rest) (sym (take-add 8 4 rest))
    ∙ ap (λ (l : List ℕ). l ++ between 20 28 rest) (sym (take-add 12 8 rest))
    ∙ sym (take-add 20 8 rest) ∙ take_all 28 rest (omega arith)

-- the fields that the bytes of a line's fields write are the line's own
pub line_back : (l : Line) → l.transaction.0 < 2 ^ 32 → l.card.0 < 2 ^ 32 → l.writer.0 < 2 ^ 32 → l.value.first < 2 ^ 64
    → l.value.second < 2 ^ 64 → line_behind l.kind (fields_of l) ≡ l
line_back l t x w f s = λ i. record {
  kind = l.kind;
  transaction = record { 0 = four_back l.transaction.0 t i };
  card = record { 0 = four_back l.card.0 x i };
  writer = record { 0 = four_back l.writer.0 w i };
  value = record { first = eight_back l.value.first f i; second = eight_back l.value.second s i };
}
