-- A refused set-up, and what is refused with a shelf of another set-up, leave what is watched.
use Rattle.std.proofs.Common.{◌≡◌, ℕ, ◌<◌, ◌≤◌, Bool, true, false, cond, ltb, ◌⊎◌, List, [], ◌∷◌, None, Some, Ok, Err, Option, Result, sym, refl, ap, ◌∙◌, subst, inl, inr}
use Rattle.std.proofs.lemmas.Bool.{cases_Bool, both_ways, cond-true, cond-false, lt-ltb, ltb-false, le-ltb}
use Rattle.shelf.specs.Meaning.{Meaning, newest}
use Rattle.isolation.specs.Account.{Account, Draft, after_end}
use Rattle.transactions.specs.declared.reading.Reading.{Reading as Answer}
use Rattle.transactions.specs.declared.refusal.Refusal.{Refusal}
use Rattle.transactions.specs.declared.refusal.Refusal.TheVariants as refusals
use Rattle.transactions.specs.State.{Open, State, held, room}
use Rattle.transactions.specs.Choosing.{other_shelf, chosen}
use Rattle.transactions.specs.Calls.{set_up_answer, after_set_up, emptied, if_granted, read_at, read_by, read_answer, read_entered, after_read}
use Rattle.transactions.specs.Committing.{outdated, crowded, block_length, decide, commit_of, commit_by, commit_answer, commit_books, books_after, ends_by}
use Rattle.transactions.specs.Law.{ReadElsewhereLaw, CommitElsewhereLaw}
use Rattle.transactions.specs.Kept.{is_conflict, commit_account}
use Rattle.transactions.specs.Watched.{told, Watched}
use Rattle.transactions.proofs.Places.{ok_not_err}
use Rattle.transactions.proofs.Ties.{held_open, held_shut}
use Rattle.transactions.proofs.Ending.{ended_left}

err_same : {X : Type 0} {f g : Refusal} → ◌≡◌ {A = Result X Refusal} (Err f) (Err g) → f ≡ g
err_same e = cc

-- the program's table and the account's own words
pub conflict_ends : (f : Refusal) → ends_by f ≡ is_conflict f
conflict_ends refusals.Conflict = refl
conflict_ends _ = refl

pub refused_set_up : (n : Meaning) (b : State) (f : Refusal) → set_up_answer b n ≡ Err f → after_set_up b n ≡ b
refused_set_up n b f e = ap (λ r. if_granted r (emptied b n) b) e

-- a refused read leaves the books
pub refused_read : (n : Meaning) (b : State) (t x : ℕ) (f : Refusal) → read_answer b n t x ≡ Err f → after_read b n t x ≡ b
refused_read n b t x f e = ap (read_entered b t x) e

-- which refusals an open transaction's read can meet
read_at_refused : (m : Meaning) (o : Open) (x : ℕ) (k : Option ℕ) (f : Refusal) → read_at m o.drafts x k ≡ Err f → f ≡ refusals.OtherShelf
read_at_refused m o x None f e = sym (err_same e)
read_at_refused m o x (Some k) f e = absurd (ok_not_err e)

read_refused : (m : Meaning) (o : Open) (x : ℕ) (p : Bool) (f : Refusal)
    → cond p (Err refusals.OtherShelf) (read_at m o.drafts x (chosen m o.reads x)) ≡ Err f → f ≡ refusals.OtherShelf
read_refused m o x true f e = sym (err_same e)
read_refused m o x false f e = read_at_refused m o x (chosen m o.reads x) f e

abbrev Refused : Refusal → Type 0
Refused f = (f ≡ refusals.OtherShelf) ⊎ ((f ≡ refusals.Conflict) ⊎ ((f ≡ refusals.NoPlace) ⊎ (f ≡ refusals.JournalFull)))

decide_refused : (o p c l : Bool) (f : Refusal) → ◌≡◌ {A = Result (Unit {0}) Refusal}
    (cond o (Err refusals.OtherShelf) (cond p (Err refusals.Conflict) (cond c (Err refusals.NoPlace) (cond l (Err refusals.JournalFull) (Ok tt)))))
    (Err f) → Refused f
decide_refused true p c l f e = inl (sym (err_same e))
decide_refused false true c l f e = inr (inl (sym (err_same e)))
decide_refused false false true l f e = inr (inr (inl (sym (err_same e))))
decide_refused false false false true f e = inr (inr (inr (sym (err_same e))))
decide_refused false false false false f e = absurd (ok_not_err e)

commit_refused : (b : State) (m : Meaning) (o : Open) (ds : List Draft) (f : Refusal) → commit_of b m o ds ≡ Err f → Refused f
commit_refused b m o [] f e = absurd (ok_not_err e)
commit_refused b m o (d ∷ ds) f e =
    decide_refused (other_shelf b m o.reads) (outdated m o.reads o.drafts) (crowded m o.drafts) (ltb (room b) (block_length o)) f e

module _ (a : Account) (m n : Meaning) (b : State) (w : Watched a m b) (t : ℕ) where
  pub read_elsewhere_law : (x : ℕ) (f : Refusal) → read_answer b n t x ≡ Err f → ReadElsewhereLaw a t x f
  read_elsewhere_law x f e = record {
    other = λ o lt. other o (lt-ltb x b.cards (subst (λ k. x < k) (sym w.cards) lt));
    unlisted = λ o le. unlisted o (le-ltb x b.cards (subst (λ k. k ≤ x) (sym w.cards) le));
    shut = λ q. sym (err_same (sym (ap (read_by b n x) (held_shut a b w.tied t q)) ∙ e));
  }
    where
      open_read : a.opened t ≡ true → read_by b n x (Some (told a t)) ≡ Err f
      open_read o = sym (ap (read_by b n x) (held_open a b w.tied t o)) ∙ e

      other : a.opened t ≡ true → ltb x b.cards ≡ true → f ≡ refusals.OtherShelf
      other o q =
          read_refused n (told a t) x (other_shelf b n (a.reads t)) f
          (sym (cond-true (ltb x b.cards)
          (cond (other_shelf b n (a.reads t)) (Err refusals.OtherShelf) (read_at n (a.drafts t) x (chosen n (a.reads t) x)))
          (Err refusals.NoCard) q)
          ∙ open_read o)

      unlisted : a.opened t ≡ true → ltb x b.cards ≡ false → f ≡ refusals.NoCard
      unlisted o q =
          sym (err_same (sym (cond-false (ltb x b.cards)
          (cond (other_shelf b n (a.reads t)) (Err refusals.OtherShelf) (read_at n (a.drafts t) x (chosen n (a.reads t) x)))
          (Err refusals.NoCard) q)
          ∙ open_read o))

  pub read_elsewhere_watched : (x : ℕ) (f : Refusal) → read_answer b n t x ≡ Err f → Watched a m (after_read b n t x)
  read_elsewhere_watched x f e = subst (Watched a m) (sym (refused_read n b t x f e)) w

  open_commit : (f : Refusal) → commit_answer b n t ≡ Err f → a.opened t ≡ true → commit_of b n (told a t) (a.drafts t) ≡ Err f
  open_commit f e o = sym (ap (commit_by b n) (held_open a b w.tied t o)) ∙ e

  pub commit_elsewhere_law : (f : Refusal) → commit_answer b n t ≡ Err f → CommitElsewhereLaw a t f
  commit_elsewhere_law f e = record {
    plain = λ o q. ok_not_err (sym (ap (commit_of b n (told a t)) q) ∙ open_commit f e o);
    other = λ o. commit_refused b n (told a t) (a.drafts t) f (open_commit f e o);
    shut = λ q. sym (err_same (sym (ap (commit_by b n) (held_shut a b w.tied t q)) ∙ e));
  }

  -- a conflict ends the transaction, and nothing else changes anything
  refusal_left : a.opened t ≡ true → (f : Refusal) → Refused f → Watched (commit_account a t (Err f)) m (books_after b n t (Some (told a t)) (Err f))
  refusal_left o f (inl q) = subst (λ r. Watched (commit_account a t (Err r)) m (books_after b n t (Some (told a t)) (Err r))) (sym q) w
  refusal_left o f (inr (inl q)) =
      subst (λ r. Watched (commit_account a t (Err r)) m (books_after b n t (Some (told a t)) (Err r))) (sym q) (ended_left a m b w t o)
  refusal_left o f (inr (inr (inl q))) = subst (λ r. Watched (commit_account a t (Err r)) m (books_after b n t (Some (told a t)) (Err r))) (sym q) w
  refusal_left o f (inr (inr (inr q))) = subst (λ r. Watched (commit_account a t (Err r)) m (books_after b n t (Some (told a t)) (Err r))) (sym q) w

  pub commit_elsewhere_watched : (f : Refusal) → commit_answer b n t ≡ Err f → Watched (commit_account a t (Err f)) m (commit_books b n t)
  commit_elsewhere_watched f e = go (cases_Bool (a.opened t))
    where
      go : (a.opened t ≡ true) ⊎ (a.opened t ≡ false) → Watched (commit_account a t (Err f)) m (books_after b n t (held b t) (commit_answer b n t))
      go (inl o) =
          subst (λ r. Watched (commit_account a t (Err f)) m (books_after b n t (held b t) r)) (sym e)
          (subst (λ h. Watched (commit_account a t (Err f)) m (books_after b n t h (Err f))) (sym (held_open a b w.tied t o))
          (refusal_left o f (commit_refused b n (told a t) (a.drafts t) f (open_commit f e o))))
      go (inr q) =
          let s : f ≡ refusals.NotOpen = (commit_elsewhere_law f e).shut q in
          subst (λ h. Watched (commit_account a t (Err f)) m (books_after b n t h (commit_answer b n t))) (sym (held_shut a b w.tied t q))
          (subst (λ r. Watched (commit_account a t (Err r)) m b) (sym s) w)
