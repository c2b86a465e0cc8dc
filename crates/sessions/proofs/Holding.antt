-- Slips that are in hand, and slips that are taken.
use Rattle.std.proofs.Common.{◌≡◌, ℕ, ◌<◌, true, false, List, length, get_or, is_some, Some, None, Option, MatchOption, Bor, sym, refl, ap, ◌∙◌, arith}
use Rattle.std.specs.List.{slice_get}
use Rattle.std.specs.Option.{option_map, option_and_then}
use Rattle.std.proofs.lemmas.Option.{slice_get-get_or}
use Rattle.std.proofs.lemmas.Bool.{eqb-true}
use Rattle.stamps.specs.declared.numbers.TxNo.{TxNo}
use Rattle.transactions.specs.State.{last_at}
use Rattle.transactions.proofs.Places.{none_some}
use Rattle.books.specs.declared.slip.Slip.{Slip}
use Rattle.entries.specs.Numbers.{last_of}
use Rattle.entries.proofs.Last.{last_any, last_at_none, last_at_holds}
use Rattle.sessions.specs.Slips.{is_for, holds, less, without, slip_for}

pub record Found (xs : List Slip) (t : TxNo) (i : ℕ) (d : Slip) : Type 0 where
  pub within : i < length xs
  pub held : holds xs t.0 ≡ true
  pub its : (get_or xs i d).number ≡ t

same_number : (s : Slip) (t : TxNo) → s.number.0 ≡ t.0 → s.number ≡ t
same_number s t e = λ i. record { 0 = e i }

pub found : (xs : List Slip) (t : TxNo) (i : ℕ) (d : Slip) → Some i ≡ last_at (is_for t.0) xs → Found xs t i d
found xs t i d e =
    let (lt, p) = last_at_holds (is_for t.0) xs i d (sym e) in
    record {
      within = lt;
      held = sym (last_any (is_for t.0) xs) ∙ ap is_some (sym e);
      its = same_number (get_or xs i d) t (eqb-true (get_or xs i d).number.0 t.0 p);
    }

pub none_held : (xs : List Slip) (t : ℕ) → None ≡ last_at (is_for t) xs → holds xs t ≡ false
none_held xs t e = last_at_none (is_for t) xs (sym e)

-- the slip that is shown
pub shown : (xs : List Slip) (t : TxNo) (o : Option (Bor Slip)) → option_map (λ s. s.now) o ≡ last_of (is_for t.0) xs →
    MatchOption o (holds xs t.0 ≡ false) (λ s. (holds xs t.0 ≡ true) × (s.now.number ≡ t))
shown xs t o same = go (last_at (is_for t.0) xs) refl o same
  where
    go : (i : Option ℕ) → last_at (is_for t.0) xs ≡ i → (o : Option (Bor Slip)) → option_map (λ s. s.now) o ≡ option_and_then (slice_get xs) i →
        MatchOption o (holds xs t.0 ≡ false) (λ s. (holds xs t.0 ≡ true) × (s.now.number ≡ t))
    go None e None h = none_held xs t.0 (sym e)
    go None e (Some s) h = let z : ◌≡◌ {A = ℕ} 0 1 = cc in absurd (omega arith)
    go (Some i) e None h =
        let f = found xs t i (slip_for t) (sym e) in
        let there = h ∙ slice_get-get_or xs i (slip_for t) f.within in
        let z : ◌≡◌ {A = ℕ} 0 1 = cc in absurd (omega arith)
    go (Some i) e (Some s) h =
        let f = found xs t i (slip_for t) (sym e) in
        let there = h ∙ slice_get-get_or xs i (slip_for t) f.within in
        let it : s.now ≡ get_or xs i (slip_for t) = cc in
        (f.held, ap (λ (y : Slip). y.number) it ∙ f.its)

-- no slip in hand, none taken
pub none_taken : (xs : List Slip) (t : ℕ) → holds xs t ≡ false → without xs t ≡ xs
none_taken xs t h = go (last_at (is_for t) xs) (last_any (is_for t) xs ∙ h)
  where
    go : (o : Option ℕ) → is_some o ≡ false → less xs o ≡ xs
    go None e = refl
    go (Some i) e = absurd (none_some (absurd_bool e))
      where
        absurd_bool : true ≡ false → None ≡ Some i
        absurd_bool q = cc
