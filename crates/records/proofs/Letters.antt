-- What follows of a record's bytes once its kind is told. Assumes nothing.
use Rattle.std.proofs.Common.{◌≡◌, ℕ, ◌≤◌, cond, eqb, List, [], ◌∷◌, ◌++◌, length, get_or, replicate, IfOk, Ok, Err, Some, None, Option, Result, sym, refl, ap, ◌∙◌, subst, arith}
use borrow.Rule.Slice.PartMut.{put_mid}
use Rattle.std.specs.List.{between}
use Rattle.std.proofs.lemmas.Slice.{between_to_end}
use Rattle.records.specs.declared.kind.Kind.{Kind}
use Rattle.records.specs.declared.kind.Kind.TheVariants.{Read, Writ, Done, Gone}
use Rattle.records.specs.declared.line.Line.{Line}
use Rattle.records.specs.declared.fault.RecordFault.{RecordFault}
use Rattle.records.specs.declared.fault.RecordFault.TheVariants as faults
use Rattle.records.specs.Format.{letters, bytes_of, line_behind, fields_of, fault_of, tested, decoded, encoded}

-- the line behind the letters of k, tested
abbrev pub tested_behind : Kind → List ℕ → Result Line RecordFault
tested_behind k rest = tested (line_behind k rest) (fault_of (line_behind k rest))

pub letters_apart : (bs : List ℕ) (a b c d : ℕ) → 4 ≤ length bs → get_or bs 0 0 ≡ a → get_or bs 1 0 ≡ b → get_or bs 2 0 ≡ c → get_or bs 3 0 ≡ d
    → bs ≡ a ∷ b ∷ c ∷ d ∷ between 4 (length bs) bs
letters_apart [] a b c d fit ea eb ec ed = absurd (omega arith)
letters_apart (w ∷ []) a b c d fit ea eb ec ed = absurd (omega arith)
letters_apart (w ∷ x ∷ []) a b c d fit ea eb ec ed = absurd (omega arith)
letters_apart (w ∷ x ∷ y ∷ []) a b c d fit ea eb ec ed = absurd (omega arith)
letters_apart (w ∷ x ∷ y ∷ z ∷ rest) a b c d fit ea eb ec ed =
    λ i. ea i ∷ eb i ∷ ec i ∷ ed i ∷ sym (between_to_end (w ∷ x ∷ y ∷ z ∷ rest) 4 (length (w ∷ x ∷ y ∷ z ∷ rest)) (omega arith)) i

decoded_behind : (k : Kind) (rest : List ℕ) → length (letters k ++ rest) ≡ 32 → decoded (letters k ++ rest) ≡ tested_behind k rest
decoded_behind Read rest e = ap (λ (n : ℕ). cond (eqb n 32) (tested_behind Read rest) (Err faults.Length)) e
decoded_behind Writ rest e = ap (λ (n : ℕ). cond (eqb n 32) (tested_behind Writ rest) (Err faults.Length)) e
decoded_behind Done rest e = ap (λ (n : ℕ). cond (eqb n 32) (tested_behind Done rest) (Err faults.Length)) e
decoded_behind Gone rest e = ap (λ (n : ℕ). cond (eqb n 32) (tested_behind Gone rest) (Err faults.Length)) e

-- r is what bs reads as, and a line is written back as bs
pub record ReadAs (bs : List ℕ) (r : Result Line RecordFault) : Type 0 where
  pub value : r ≡ decoded bs
  pub back : IfOk r (λ l. encoded l ≡ bs)

-- the line whose fields stand behind the letters of k, tested, is what the bytes read as
pub read_behind : (k : Kind) (bs rest : List ℕ) (l : Line) (r : Result Line RecordFault) → length bs ≡ 32 → bs ≡ letters k ++ rest
    → l ≡ line_behind k rest → fields_of l ≡ rest → r ≡ tested l (fault_of l) → ReadAs bs r
read_behind k bs rest l r long e is fields tests = record {
  value = tests ∙ ap (λ (m : Line). tested m (fault_of m)) is ∙ sym (ap decoded e ∙ decoded_behind k rest (sym (ap length e) ∙ long));
  back = subst (λ (a : Result Line RecordFault). IfOk a (λ m. encoded m ≡ bs)) (sym tests) (go (fault_of l));
}
  where
    go : (f : Option RecordFault) → IfOk (tested l f) (λ m. encoded m ≡ bs)
    go None = (λ i. letters (is i).kind ++ fields i) ∙ sym e
    go (Some f) = tt

-- what a line without a fault is written as reads as the line
pub read_written : (bs : List ℕ) (l m : Line) → length bs ≡ 32 → bs ≡ encoded l → line_behind l.kind (fields_of l) ≡ l → Ok m ≡ tested l (fault_of l)
    → decoded bs ≡ Ok l
read_written bs l m long e is tests =
    ap decoded e ∙ decoded_behind l.kind (fields_of l) (sym (ap length e) ∙ long) ∙ ap (λ (x : Line). tested x (fault_of x)) is ∙ go (fault_of l) tests
  where
    go : (f : Option RecordFault) → Ok m ≡ tested l f → tested l f ≡ Ok l
    go None q = refl
    go (Some f) q = cc

-- six lists, four of four elements and two of eight, written one behind the other over 32 zeros
abbrev written_over : (k t x w f s : List ℕ) → List ℕ
written_over k t x w f s = put_mid 24 8 (put_mid 16 8 (put_mid 12 4 (put_mid 8 4 (put_mid 4 4 (put_mid 0 4 (replicate 32 0) k) t) x) w) f) s

fields_behind : (k : Kind) (l : Line) → written_over (letters k) (bytes_of 4 l.transaction.0) (bytes_of 4 l.card.0) (bytes_of 4 l.writer.0) (bytes_of 8 l.value.first) (bytes_of 8 l.value.second) ≡ letters k ++ fields_of l
fields_behind Read l = refl
fields_behind Writ l = refl
fields_behind Done l = refl
fields_behind Gone l = refl

pub written_in_turn : (l : Line) (k t x w f s : List ℕ) → k ≡ letters l.kind → t ≡ bytes_of 4 l.transaction.0 → x ≡ bytes_of 4 l.card.0
    → w ≡ bytes_of 4 l.writer.0 → f ≡ bytes_of 8 l.value.first → s ≡ bytes_of 8 l.value.second → written_over k t x w f s ≡ encoded l
written_in_turn l k t x w f s ek et ex ew ef es = (λ i. written_over (ek i) (et i) (ex i) (ew i) (ef i) (es i)) ∙ fields_behind l.kind l
