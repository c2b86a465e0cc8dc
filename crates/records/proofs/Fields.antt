-- Single fields of a record. Assumes nothing.
use Rattle.std.proofs.Common.{◌≡◌, ℕ, zero, suc, ◌+◌, Bool, true, false, cond, eqb, List, length, get_or, drop, Some, None, Ok, Err, Option, sym, refl, ap, ◌∙◌, subst, arith, get_or-drop}
use Rattle.records.specs.declared.kind.Kind.{Kind}
use Rattle.records.specs.declared.line.Line.{Line}
use Rattle.records.specs.declared.fault.RecordFault.{RecordFault}
use Rattle.records.specs.declared.fault.RecordFault.TheVariants as faults
use Rattle.records.specs.Format.{record_size, number_at, line_of, transaction_in, card_in, good_transaction, good_card, good_writer, good_words, fault_of, tested, read_as, kind_of, decoded}

-- a number behind n bytes more
number_behind : (bs : List ℕ) (n at k : ℕ) → number_at (drop n bs) at k ≡ number_at bs (n + at) k
number_behind bs n at zero = refl
number_behind bs n at (suc k) =
    let front = number_behind bs n at k in
    let here : get_or (drop n bs) (at + k) 0 ≡ get_or bs (n + at + k) 0 = get_or-drop n bs (at + k) 0 ∙ ap (λ (i : ℕ). get_or bs i 0) (omega arith) in
    cc

-- a line that is read has the length of a record, its fields stand in the bytes, and none of them is bad
pub record Glanced (bs : List ℕ) (l : Line) : Type 0 where
  pub sized : eqb (length bs) record_size ≡ true
  pub transaction : transaction_in bs ≡ l.transaction
  pub card : card_in bs ≡ l.card
  pub kind : kind_of bs ≡ Some l.kind
  pub good : fault_of l ≡ None

pub glanced : (bs : List ℕ) (l : Line) → decoded bs ≡ Ok l → Glanced bs l
glanced bs l e = long (eqb (length bs) record_size) refl e
  where
    told : (k : Kind) (f : Option RecordFault) → kind_of bs ≡ Some k → eqb (length bs) record_size ≡ true → fault_of (line_of k bs) ≡ f → tested (line_of k bs) f ≡ Ok l → Glanced bs l
    told k None kind size none q =
        let here : line_of k bs ≡ l = cc in
        record {
          sized = size;
          transaction = (λ i. record { 0 = sym (number_behind bs 4 0 4) i }) ∙ ap (λ (m : Line). m.transaction) here;
          card = (λ i. record { 0 = sym (number_behind bs 4 4 4) i }) ∙ ap (λ (m : Line). m.card) here;
          kind = kind ∙ ap (λ (m : Line). Some m.kind) here;
          good = subst (λ (m : Line). fault_of m ≡ None) here none;
        }
    told k (Some f) kind size none q = let z : ◌≡◌ {A = ℕ} 0 1 = cc in absurd (omega arith)

    kinds : (k : Option Kind) → kind_of bs ≡ k → eqb (length bs) record_size ≡ true → read_as bs k ≡ Ok l → Glanced bs l
    kinds (Some k) kind size q = told k (fault_of (line_of k bs)) kind size refl q
    kinds None kind size q = let z : ◌≡◌ {A = ℕ} 0 1 = cc in absurd (omega arith)

    long : (b : Bool) → eqb (length bs) record_size ≡ b → cond b (read_as bs (kind_of bs)) (Err faults.Length) ≡ Ok l → Glanced bs l
    long true size q = kinds (kind_of bs) refl size q
    long false size q = let z : ◌≡◌ {A = ℕ} 0 1 = cc in absurd (omega arith)

-- a line without a fault has a fit card
pub card_fits : (l : Line) → fault_of l ≡ None → good_card l.kind l.card.0 ≡ true
card_fits l none = both (good_transaction l.transaction.0) (good_card l.kind l.card.0)
    (cond (good_writer l.kind l.transaction.0 l.writer.0) (cond (good_words l.kind l.value) None (Some faults.Words)) (Some faults.Writer)) none
  where
    both : (a b : Bool) (f : Option RecordFault) → cond a (cond b f (Some faults.Card)) (Some faults.Transaction) ≡ None → b ≡ true
    both true true f q = refl
    both true false f q = let z : ◌≡◌ {A = ℕ} 0 1 = cc in absurd (omega arith)
    both false b f q = let z : ◌≡◌ {A = ℕ} 0 1 = cc in absurd (omega arith)
