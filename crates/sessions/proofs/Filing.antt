-- A file that is made record by record.
use Rattle.std.proofs.Common.{◌≡◌, ℕ, zero, suc, ◌+◌, ◌-◌, ◌*◌, ◌<◌, ◌≤◌, Bool, true, false, cond, eqb, List, [], ◌∷◌, ◌++◌, length, get_or, take, drop, is_ok, is_err, Some, None, Ok, Err, Option, Result, sym, refl, ap, ◌∙◌, subst, append_assoc, append-nil, arith}
use Rattle.std.specs.List.{between, AllByRecursion as All}
use Rattle.std.specs.Option.{option_or}
use Rattle.std.proofs.lemmas.List.{take_at, take_all, take_more}
use Rattle.std.proofs.ByRecursion.{All-push}
use Rattle.std.proofs.lemmas.Bool.{eqb-true}
use Rattle.records.specs.declared.fault.RecordFault.{RecordFault}
use Rattle.records.specs.declared.fault.RecordFault.TheVariants as faults
use Rattle.records.specs.declared.kind.Kind.TheVariants.{Read}
use Rattle.records.specs.declared.line.Line.{Line}
use Rattle.records.specs.Format.{kind_of, read_as, fault_of, decoded, encoded, written, writes}
use Rattle.transactions.specs.Journal.{InFile}
use Rattle.transactions.proofs.Places.{none_some, some_same, ok_not_err}
use Rattle.sessions.specs.Files.{file_of, first_fault, unless_fault, filed}

-- a line's record reads back as the line
abbrev pub ReadsBack : Line → Type 0
ReadsBack l = decoded (encoded l) ≡ Ok l

sized : (l : Line) → ReadsBack l → length (encoded l) ≡ 32
sized l e = go (eqb (length (encoded l)) 32) refl e
  where
    go : (b : Bool) → eqb (length (encoded l)) 32 ≡ b → cond b (read_as (encoded l) (kind_of (encoded l))) (Err faults.Length) ≡ Ok l
        → length (encoded l) ≡ 32
    go true t q = eqb-true (length (encoded l)) 32 t
    go false t q = absurd (ok_not_err (sym q))

-- past the first record
past : (xs ys : List ℕ) (i : ℕ) → length xs ≡ 32
    → between (suc i * 32) (suc i * 32 + 32) (xs ++ ys) ≡ between (i * 32) (i * 32 + 32) ys
past xs ys i e =
    let long : suc i * 32 + 32 - suc i * 32 ≡ 32 = omega arith in
    let same : i * 32 + 32 - i * 32 ≡ 32 = omega arith in
    let far : suc i * 32 ≡ length xs + i * 32 = omega arith in
    ap (λ n. take n (drop (suc i * 32) (xs ++ ys))) (long ∙ sym same)
    ∙ ap (λ n. take (i * 32 + 32 - i * 32) (drop n (xs ++ ys))) far
    ∙ ap (take (i * 32 + 32 - i * 32)) (behind xs)
  where
    behind : (zs : List ℕ) → drop (length zs + i * 32) (zs ++ ys) ≡ drop (i * 32) ys
    behind [] = ap (λ n. drop n ys) (omega arith)
    behind (z ∷ zs) =
        let e : suc (length zs) + i * 32 ≡ suc (length zs + i * 32) = omega arith in
        ap (λ n. drop n (z ∷ (zs ++ ys))) e ∙ behind zs

pub in_file : (ls : List Line) → All ReadsBack ls → InFile (file_of ls) ls
in_file [] a i l e = absurd (none_some e)
in_file (x ∷ ls) a zero l e =
    ap decoded (take_at (encoded x) (file_of ls) 32 (sized x a.0)) ∙ a.0 ∙ ap Ok (some_same e)
in_file (x ∷ ls) a (suc i) l e = ap decoded (past (encoded x) (file_of ls) i (sized x a.0)) ∙ in_file ls a.1 i l e

file_push : (ls : List Line) (l : Line) → file_of (ls ++ (l ∷ [])) ≡ file_of ls ++ encoded l
file_push [] l = append-nil (encoded l)
file_push (x ∷ ls) l = ap (λ zs. encoded x ++ zs) (file_push ls l) ∙ sym (append_assoc (encoded x) (file_of ls) (encoded l))

-- no line so far has a bad field
fault_push : (ls : List Line) (l : Line) → first_fault ls ≡ None → first_fault (ls ++ (l ∷ [])) ≡ fault_of l
fault_push [] l g = go (fault_of l)
  where
    go : (o : Option RecordFault) → option_or o None ≡ o
    go None = refl
    go (Some f) = refl
fault_push (x ∷ ls) l g = go (fault_of x) g (λ h. fault_push ls l h)
  where
    go : (o : Option RecordFault) → option_or o (first_fault ls) ≡ None → (first_fault ls ≡ None → first_fault (ls ++ (l ∷ [])) ≡ fault_of l)
        → option_or o (first_fault (ls ++ (l ∷ []))) ≡ fault_of l
    go None h rest = rest h
    go (Some f) h rest = absurd (none_some (sym h))

-- the first bad line
pub first_at : (ls : List Line) (i : ℕ) (d : Line) (f : RecordFault) → i < length ls → first_fault (take i ls) ≡ None → fault_of (get_or ls i d) ≡ Some f →
    first_fault ls ≡ Some f
first_at [] i d f lt good is = absurd (omega arith)
first_at (x ∷ ls) zero d f lt good is = ap (λ o. option_or o (first_fault ls)) is
first_at (x ∷ ls) (suc i) d f lt good is = go (fault_of x) good (λ h. first_at ls i d f (omega arith) h is)
  where
    go : (o : Option RecordFault) → option_or o (first_fault (take i ls)) ≡ None → (first_fault (take i ls) ≡ None → first_fault ls ≡ Some f) → option_or o (first_fault ls) ≡ Some f
    go None h rest = rest h
    go (Some g) h rest = absurd (none_some (sym h))

-- what an answer of `encode` into a whole record says of the fields
pub bad_field : (l : Line) (f : RecordFault) → Err f ≡ writes l 32 → fault_of l ≡ Some f
bad_field l f e = go (fault_of l) e
  where
    go : (o : Option RecordFault) → Err f ≡ written o → o ≡ Some f
    go None q = let z : ◌≡◌ {A = ℕ} 0 1 = cc in absurd (omega arith)
    go (Some g) q = cc

no_fault : (l : Line) (r : Result (Unit {0}) RecordFault) → r ≡ writes l 32 → is_err r ≡ false → fault_of l ≡ None
no_fault l r e h = go (fault_of l) (sym (ap is_err e) ∙ h)
  where
    go : (o : Option RecordFault) → is_err (written o) ≡ false → o ≡ None
    go None q = refl
    go (Some f) q = absurd (let z : ◌≡◌ {A = ℕ} 0 1 = cc in omega arith)

-- what `encode` wrote
pub wrote : (l : Line) (r : Result (Unit {0}) RecordFault) (before after : List ℕ) → is_err r ≡ false → after ≡ cond (is_ok r) (encoded l) before
    → (is_ok r ≡ true → decoded after ≡ Ok l) → (after ≡ encoded l) × ReadsBack l
wrote l (Ok u) before after h e b = (e, ap decoded (sym e) ∙ b refl)
wrote l (Err f) before after h e b = absurd (let z : ◌≡◌ {A = ℕ} 0 1 = cc in omega arith)

-- stands for no line
abbrev pub no_line : Line
no_line = record {
  kind = Read;
  transaction = record { 0 = 0 };
  card = record { 0 = 0 };
  writer = record { 0 = 0 };
  value = record { first = 0; second = 0 };
}

-- the file so far, of the lines ls
pub record Made (ls : List Line) (bs : List ℕ) : Type 0 where
  pub bytes : bs ≡ file_of ls
  pub good : first_fault ls ≡ None
  pub back : All ReadsBack ls

pub made_none : (ls : List Line) (bs : List ℕ) → bs ≡ [] → Made (take 0 ls) bs
made_none ls bs e = record { bytes = e; good = refl; back = tt }

pub made_more : (ls : List Line) (i : ℕ) (d : Line) (bs cs : List ℕ) (r : Result (Unit {0}) RecordFault) → i < length ls → Made (take i ls) bs
    → r ≡ writes (get_or ls i d) 32 → is_err r ≡ false → ReadsBack (get_or ls i d) → cs ≡ bs ++ encoded (get_or ls i d) → Made (take (i + 1) ls) cs
made_more ls i d bs cs r lt m e h b q =
    subst (λ zs. Made zs cs) (sym (take_more ls i d lt))
    (record {
      bytes = q ∙ ap (λ zs. zs ++ encoded (get_or ls i d)) m.bytes ∙ sym (file_push (take i ls) (get_or ls i d));
      good = fault_push (take i ls) (get_or ls i d) m.good ∙ no_fault (get_or ls i d) r e h;
      back = All-push ReadsBack (take i ls) (get_or ls i d) m.back b;
    })

pub made_all : (ls : List Line) (i : ℕ) (bs : List ℕ) → length ls ≤ i → Made (take i ls) bs → Made ls bs
made_all ls i bs le m = subst (λ zs. Made zs bs) (take_all i ls le) m

pub made_filed : (ls : List Line) (bs : List ℕ) → Made ls bs → Ok bs ≡ filed ls
made_filed ls bs m = ap Ok m.bytes ∙ ap (λ o. unless_fault o (file_of ls)) (sym m.good)

pub made_reads : (ls : List Line) (bs : List ℕ) → Made ls bs → InFile bs ls
made_reads ls bs m = subst (λ zs. InFile zs ls) (sym m.bytes) (in_file ls m.back)
