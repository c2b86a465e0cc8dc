-- A watched commit obeys the law.
use Rattle.std.proofs.Common.{◌≡◌, ℕ, Bool, true, false, cond, ltb, ◌⊎◌, List, [], ◌∷◌, Ok, Err, Result, sym, refl, ap, ◌∙◌, subst, inl, inr, arith}
use Rattle.std.proofs.lemmas.Bool.{both_ways, cond-false}
use Rattle.shelf.specs.Meaning.{Meaning}
use Rattle.isolation.specs.History.{Clash}
use Rattle.isolation.specs.Account.{Account, Draft, after_commit}
use Rattle.isolation.specs.AccountHistory.{history}
use Rattle.isolation.proofs.Conflict.{outdated_clash, clash_outdated}
use Rattle.transactions.specs.declared.refusal.Refusal.{Refusal}
use Rattle.transactions.specs.declared.refusal.Refusal.TheVariants as refusals
use Rattle.transactions.specs.State.{State, room}
use Rattle.transactions.specs.Choosing.{stamps_of, other_shelf}
use Rattle.transactions.specs.Committing.{outdated, crowded, block_length, decide, commit_of, commit_by, commit_answer}
use Rattle.transactions.specs.Law.{CommitLaw}
use Rattle.transactions.specs.Watched.{told, Watched}
use Rattle.transactions.proofs.Places.{ok_not_err}
use Rattle.transactions.proofs.Ties.{held_open, held_shut}
use Rattle.transactions.proofs.Seen.{same_shelf}
use Rattle.transactions.proofs.Current.{outdated_told, told_outdated}

-- the tests of a commit with drafts, on the shelf of set-up
abbrev tested : (outdated crowded full : Bool) → Result (Unit {0}) Refusal
tested true c f = Err refusals.Conflict
tested false true f = Err refusals.NoPlace
tested false false true = Err refusals.JournalFull
tested false false false = Ok tt

tested_is : (p c f : Bool)
    → cond p (Err refusals.Conflict) (cond c (Err refusals.NoPlace) (cond f (Err refusals.JournalFull) (Ok tt))) ≡ tested p c f
tested_is true c f = refl
tested_is false true f = refl
tested_is false false true = refl
tested_is false false false = refl

-- which answer an open transaction's commit gets
pub data Decided (a : Account) (m : Meaning) (t : ℕ) : Result (Unit {0}) Refusal → Type 0 where
  conflicts : outdated m (a.reads t) (a.drafts t) ≡ true → Decided a m t (Err refusals.Conflict)
  lacks_place : outdated m (a.reads t) (a.drafts t) ≡ false → Decided a m t (Err refusals.NoPlace)
  lacks_lines : outdated m (a.reads t) (a.drafts t) ≡ false → Decided a m t (Err refusals.JournalFull)
  grants : outdated m (a.reads t) (a.drafts t) ≡ false → crowded m (a.drafts t) ≡ false → Decided a m t (Ok tt)

module _ (a : Account) (m : Meaning) (b : State) (w : Watched a m b) (t : ℕ) where
  pub shut_answer : a.opened t ≡ false → commit_answer b m t ≡ Err refusals.NotOpen
  shut_answer e = ap (commit_by b m) (held_shut a b w.tied t e)

  by_told : a.opened t ≡ true → commit_answer b m t ≡ commit_of b m (told a t) (a.drafts t)
  by_told o = ap (commit_by b m) (held_open a b w.tied t o)

  decide_is : decide b m (told a t)
      ≡ tested (outdated m (a.reads t) (a.drafts t)) (crowded m (a.drafts t)) (ltb (room b) (block_length (told a t)))
  decide_is =
      cond-false (other_shelf b m (a.reads t)) (Err refusals.OtherShelf) _ (same_shelf a m b w t)
      ∙ tested_is (outdated m (a.reads t) (a.drafts t)) (crowded m (a.drafts t)) (ltb (room b) (block_length (told a t)))

  decided : (p c f : Bool) → outdated m (a.reads t) (a.drafts t) ≡ p → crowded m (a.drafts t) ≡ c → Decided a m t (tested p c f)
  decided true c f e q = conflicts e
  decided false true f e q = lacks_place e
  decided false false true e q = lacks_lines e
  decided false false false e q = grants e q

  nothing_drafted : a.drafts t ≡ [] → (outdated m (a.reads t) (a.drafts t) ≡ false) × (crowded m (a.drafts t) ≡ false)
  nothing_drafted e = (ap (outdated m (a.reads t)) e, ap (crowded m) e)

  decided_of : (ds : List Draft) → a.drafts t ≡ ds → Decided a m t (commit_of b m (told a t) ds)
  decided_of [] e = let (p, q) = nothing_drafted e in grants p q
  decided_of (d ∷ ds) e =
      subst (Decided a m t) (sym decide_is)
      (decided (outdated m (a.reads t) (a.drafts t)) (crowded m (a.drafts t)) (ltb (room b) (block_length (told a t))) refl refl)

  pub commit_decided : a.opened t ≡ true → Decided a m t (commit_answer b m t)
  commit_decided o = subst (Decided a m t) (sym (by_told o)) (decided_of (a.drafts t) refl)

  -- a granted commit has places for its drafts
  pub granted_room : a.opened t ≡ true → commit_answer b m t ≡ Ok tt → crowded m (a.drafts t) ≡ false
  granted_room o e = go (commit_answer b m t) (commit_decided o) e
    where
      go : (r : Result (Unit {0}) Refusal) → Decided a m t r → r ≡ Ok tt → crowded m (a.drafts t) ≡ false
      go _ (conflicts p) q = absurd (ok_not_err (sym q))
      go _ (lacks_place p) q = absurd (ok_not_err (sym q))
      go _ (lacks_lines p) q = absurd (ok_not_err (sym q))
      go _ (grants p c) q = c

  pub commit_law : CommitLaw a t (commit_answer b m t)
  commit_law = record {
    conflict = λ o e. conflict o (commit_answer b m t) (commit_decided o) e;
    clash = λ o c. clash o c (commit_answer b m t) (commit_decided o);
    plain = λ o e. by_told o ∙ ap (commit_of b m (told a t)) e;
    refused = λ o f e. refused f (commit_answer b m t) (commit_decided o) e;
    shut = shut_answer;
  }
    where
      stale : (r : Result (Unit {0}) Refusal) → Decided a m t r → r ≡ Err refusals.Conflict → outdated m (a.reads t) (a.drafts t) ≡ true
      stale _ (conflicts p) q = p
      stale _ (lacks_place p) q = let z : ◌≡◌ {A = ℕ} 0 1 = cc in absurd (omega arith)
      stale _ (lacks_lines p) q = let z : ◌≡◌ {A = ℕ} 0 1 = cc in absurd (omega arith)
      stale _ (grants p c) q = absurd (ok_not_err q)

      conflict : a.opened t ≡ true → (r : Result (Unit {0}) Refusal) → Decided a m t r → r ≡ Err refusals.Conflict → Clash (history (after_commit a t))
      conflict o r d e = outdated_clash a (stamps_of m) w.lawful t o (outdated_told a m w.shelved w.lawful t (stale r d e))

      fresh : a.opened t ≡ true → Clash (history (after_commit a t)) → outdated m (a.reads t) (a.drafts t) ≡ false → ⊥
      fresh o c p =
          both_ways (outdated m (a.reads t) (a.drafts t)) p
          (told_outdated a m w.shelved w.lawful t (clash_outdated a (stamps_of m) w.lawful t o c))

      clash : a.opened t ≡ true → Clash (history (after_commit a t)) → (r : Result (Unit {0}) Refusal) → Decided a m t r → r ≡ Err refusals.Conflict
      clash o c _ (conflicts p) = refl
      clash o c _ (lacks_place p) = absurd (fresh o c p)
      clash o c _ (lacks_lines p) = absurd (fresh o c p)
      clash o c _ (grants p q) = absurd (fresh o c p)

      refused : (f : Refusal) (r : Result (Unit {0}) Refusal) → Decided a m t r → r ≡ Err f
          → (f ≡ refusals.Conflict) ⊎ ((f ≡ refusals.NoPlace) ⊎ (f ≡ refusals.JournalFull))
      refused f _ (conflicts p) e = inl cc
      refused f _ (lacks_place p) e = inr (inl cc)
      refused f _ (lacks_lines p) e = inr (inr cc)
      refused f _ (grants p c) e = absurd (ok_not_err e)
