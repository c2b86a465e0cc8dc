-- A granted set-up begins what is watched.
use Rattle.std.proofs.Common.{◌≡◌, ℕ, zero, suc, pred, ◌<◌, ◌≤◌, Bool, true, false, cond, eqb, ltb, ◌⊎◌, length, Ok, Err, Result, unwrap_or, sym, refl, ap, subst, inl, inr, arith}
use Rattle.std.specs.Option.{option_map}
use Rattle.std.proofs.lemmas.Bool.{cases_eq, ltb-false, or_parts}
use Rattle.shelf.specs.Meaning.{Version, Meaning, first_version, newest}
use Rattle.shelf.specs.Sound.{Sound}
use Rattle.isolation.specs.Account.{fresh}
use Rattle.isolation.proofs.Steps.{fresh_lawful}
use Rattle.transactions.specs.declared.refusal.Refusal.{Refusal}
use Rattle.transactions.specs.declared.refusal.Refusal.TheVariants as refusals
use Rattle.transactions.specs.State.{State}
use Rattle.transactions.specs.Choosing.{stamps_of}
use Rattle.transactions.specs.Calls.{any_written, places_used, long_enough, set_up_answer, emptied, if_granted, after_set_up}
use Rattle.transactions.specs.Shelved.{Held, Shelved}
use Rattle.transactions.specs.Watched.{Watched}
use Rattle.transactions.proofs.Places.{ok_not_err, nth_within}
use Rattle.transactions.proofs.Ties.{tied_empty}
use Rattle.transactions.proofs.Journaling.{journal_begins}

-- the tests that were passed
passed : (p q r s : Bool) → ◌≡◌ {A = Result (Unit {0}) Refusal}
    (cond p (Err refusals.NoCards) (cond q (Err refusals.Narrow) (cond r (Err refusals.NotFresh) (cond s (Ok tt) (Err refusals.ShortBooks)))))
    (Ok tt)
    → (q ≡ false) × (r ≡ false)
passed true q r s e = absurd (ok_not_err (sym e))
passed false true r s e = absurd (ok_not_err (sym e))
passed false false true s e = absurd (ok_not_err (sym e))
passed false false false s e = (refl, refl)

unwritten : (m : Meaning) (n x : ℕ) → any_written m n ≡ false → x < n → newest m x ≡ 0
unwritten m zero x e lt = absurd (omega arith)
unwritten m (suc n) x e lt = go (cases_eq x n) (or_parts (any_written m n) (ltb 0 (newest m n)) e) (λ q h. unwritten m n x q h)
  where
    go : (x ≡ n) ⊎ (x ≡ n → ⊥) → (any_written m n ≡ false) × (ltb 0 (newest m n) ≡ false)
        → (any_written m n ≡ false → x < n → newest m x ≡ 0) → newest m x ≡ 0
    go (inl q) h more =
        let z : newest m n ≤ 0 = ltb-false 0 (newest m n) h.1 in
        let u : newest m n ≡ 0 = omega arith in
        subst (λ y. newest m y ≡ 0) (sym q) u
    go (inr ne) h more = more h.0 (omega arith)

one_long : (n : ℕ) → 0 < n → pred n ≡ 0 → n ≡ 1
one_long zero lt e = absurd (omega arith)
one_long (suc n) lt e = ap suc e

module _ (m : Meaning) (s : Sound m) (b : State) (granted : set_up_answer b m ≡ Ok tt) where
  tests : (ltb m.width m.cards ≡ false) × (any_written m m.cards ≡ false)
  tests = passed (eqb m.cards 0) (ltb m.width m.cards) (any_written m m.cards) (long_enough b.sizes m.cards) granted

  alone : (x : ℕ) → x < m.cards → length (m.line x) ≡ 1
  alone x lx =
      one_long (length (m.line x)) (nth_within (m.line x) 0 first_version (s.first x lx))
      (unwritten m m.cards x tests.1 lx)

  zeros : (x y : ℕ) → x < m.cards → y < m.cards → stamps_of m x 0 y ≡ 0
  zeros x y lx ly = ap (λ o. unwrap_or (option_map (λ (v : Version). v.stamp y) o) 0) (s.first x lx)

  set_up_shelved : Shelved (fresh m.cards) m
  set_up_shelved = record { cards = refl; wide = ltb-false m.width m.cards tests.0; versions = alone; holds = holds }
    where
      holds : (x k : ℕ) → x < m.cards → k ≤ 0 → Held (fresh m.cards) m x k
      holds x zero lx le = record { version = first_version; at = s.first x lx; words = refl; writer = refl }
      holds x (suc k) lx le = absurd (omega arith)

  pub set_up_watched : Watched (fresh m.cards) m (after_set_up b m)
  set_up_watched = subst (λ r. Watched (fresh m.cards) m (if_granted r (emptied b m) b)) (sym granted) (record {
    shelved = set_up_shelved;
    lawful = fresh_lawful m.cards (stamps_of m) zeros;
    tied = tied_empty (fresh m.cards) (places_used b.sizes) (λ t. refl);
    cards = refl;
    width = refl;
    given = refl;
    few = omega arith;
    journaled = journal_begins m.cards;
  })
