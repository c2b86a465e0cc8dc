-- What a watched commit leaves is watched.
use Rattle.std.proofs.Common.{◌≡◌, ℕ, zero, suc, true, false, eqb, ◌⊎◌, List, [], ◌∷◌, ◌++◌, Some, None, Ok, Result, sym, refl, ap, ◌∙◌, subst, inl, inr, arith}
use mathlib.Core.Path.{fun_ext}
use Rattle.std.proofs.lemmas.Bool.{cases_Bool, both_ways, cond-false, and_left, or_left, eq-eqb}
use Rattle.shelf.specs.Meaning.{Meaning}
use Rattle.shelf.specs.Sound.{Sound}
use Rattle.isolation.specs.Account.{Account, Draft, drafted, draft_of, makes, after_commit}
use Rattle.isolation.proofs.Lists.{at_one_here, at_one_there}
use Rattle.isolation.proofs.CommitLaw.{commit_lawful}
use Rattle.transactions.specs.declared.refusal.Refusal.{Refusal}
use Rattle.transactions.specs.State.{Open, State, held, put_back}
use Rattle.transactions.specs.Choosing.{stamps_of}
use Rattle.transactions.specs.Committing.{outdated, crowded, commit_answer, put_cards, block, shelf_with, journal_with, with_journal, shelf_after, books_after, commit_shelf, commit_books}
use Rattle.transactions.specs.Kept.{commit_account}
use Rattle.transactions.specs.Journaled.{Journaled}
use Rattle.transactions.specs.Watched.{told, Watched}
use Rattle.transactions.proofs.Places.{none_some}
use Rattle.transactions.proofs.Putting.{puts_width, put_skips}
use Rattle.transactions.proofs.Soundness.{sound_puts}
use Rattle.transactions.proofs.Ties.{Others, held_open, held_shut, tied_placed}
use Rattle.transactions.proofs.Seen.{SameShelf}
use Rattle.transactions.proofs.Blocks.{block_laid_out}
use Rattle.transactions.proofs.Journaling.{journal_stays}
use Rattle.transactions.proofs.JournalGrows.{journal_grows}
use Rattle.transactions.proofs.Ending.{ended_left}
use Rattle.transactions.proofs.Current.{current_told}
use Rattle.transactions.proofs.Granting.{commit_shelved, commit_extends}
use Rattle.transactions.proofs.CommitCall.{Decided, shut_answer, commit_decided}
use Rattle.transactions.proofs.CommitCall.Decided.{conflicts, lacks_place, lacks_lines, grants}

-- with nothing drafted nothing is put
puts_none : (m : Meaning) (o : Open) (n : ℕ) → o.drafts ≡ [] → put_cards m o n ≡ m
puts_none m o zero e = refl
puts_none m o (suc n) e = put_skips m o n (ap (λ ds. drafted ds n) e) ∙ puts_none m o n e

-- and no version is made
plain_shelf : (a : Account) (t : ℕ) → a.drafts t ≡ [] → SameShelf a (after_commit a t)
plain_shelf a t e = record {
  listed = refl;
  newest = fun_ext (λ x. cond-false (drafted (a.drafts t) x) (suc (a.newest x)) (a.newest x) (none x));
  writer = fun_ext (λ x. fun_ext (λ k. cond-false (makes a t x k) t (a.writer x k) (unmade x k)));
  value = fun_ext (λ x. fun_ext (λ k. cond-false (makes a t x k) (draft_of (a.drafts t) x (a.value x k)) (a.value x k) (unmade x k)));
}
  where
    none : (x : ℕ) → drafted (a.drafts t) x ≡ false
    none x = ap (λ ds. drafted ds x) e

    unmade : (x k : ℕ) → makes a t x k ≡ false
    unmade x k = and_left (drafted (a.drafts t) x) (eqb k (suc (a.newest x))) (none x)

module _ (a : Account) (m : Meaning) (b : State) (so : Sound m) (w : Watched a m b) (t : ℕ) where
  shelf_put : (ds : List Draft) → a.drafts t ≡ ds → put_cards m (told a t) a.listed ≡ shelf_with b m ds (told a t)
  shelf_put [] e = puts_none m (told a t) a.listed e
  shelf_put (d ∷ ds) e = ap (put_cards m (told a t)) (sym w.cards)

  commit_others : Others a (after_commit a t) t
  commit_others = record { opened = λ u ne. at_one_there a.opened t false u ne; reads = λ u ne. refl; drafts = λ u ne. refl }

  -- a block of lines, where something is drafted
  journal_put : a.opened t ≡ true → (ds : List Draft) → a.drafts t ≡ ds → Journaled (after_commit a t) (journal_with b m ds (told a t))
  journal_put o [] e = journal_stays a (after_commit a t) b.journal (plain_shelf a t e) (λ u q. refl) w.journaled
  journal_put o (d ∷ ds) e =
      subst (λ ls. Journaled (after_commit a t) (b.journal ++ ls))
      (sym (block_laid_out m (told a t) a.listed) ∙ ap (block m (told a t)) (sym w.cards))
      (journal_grows a m so w.shelved w.lawful w.few t o d.card first b.journal w.journaled)
    where
      first : drafted (a.drafts t) d.card ≡ true
      first = ap (λ es. drafted es d.card) e
          ∙ or_left (eqb d.card d.card) (drafted ds d.card) (eq-eqb d.card d.card refl)

  granted_left : a.opened t ≡ true → outdated m (a.reads t) (a.drafts t) ≡ false → crowded m (a.drafts t) ≡ false
      → Watched (after_commit a t) (put_cards m (told a t) a.listed) (with_journal (put_back b t None) (journal_with b m (a.drafts t) (told a t)))
  granted_left o p c = record {
    shelved = commit_shelved a m w.shelved w.lawful t;
    lawful = commit_lawful a (stamps_of m) w.lawful t o (current_told a m w.shelved w.lawful t p)
        (stamps_of (put_cards m (told a t) a.listed))
        (commit_extends a m w.shelved w.lawful t so c);
    tied = tied_placed a (after_commit a t) b.places t None w.tied o commit_others (λ q r. absurd (none_some r))
        (λ r. absurd (both_ways ((after_commit a t).opened t) (at_one_here a.opened t false t refl) r));
    cards = w.cards;
    width = w.width ∙ sym (puts_width m (told a t) a.listed);
    given = w.given;
    few = w.few;
    journaled = journal_put o (a.drafts t) refl;
  }

  decided_left : a.opened t ≡ true → (r : Result (Unit {0}) Refusal) → Decided a m t r
      → Watched (commit_account a t r) (shelf_after b m (Some (told a t)) r) (books_after b m t (Some (told a t)) r)
  decided_left o _ (conflicts p) = ended_left a m b w t o
  decided_left o _ (lacks_place p) = w
  decided_left o _ (lacks_lines p) = w
  decided_left o _ (grants p c) =
      subst (λ n. Watched (after_commit a t) n (books_after b m t (Some (told a t)) (Ok tt))) (shelf_put (a.drafts t) refl)
      (granted_left o p c)

  -- and the shelf keeps its laws
  decided_sound : (r : Result (Unit {0}) Refusal) → Decided a m t r → Sound (shelf_after b m (Some (told a t)) r)
  decided_sound _ (conflicts p) = so
  decided_sound _ (lacks_place p) = so
  decided_sound _ (lacks_lines p) = so
  decided_sound _ (grants p c) =
      subst Sound (shelf_put (a.drafts t) refl) (sound_puts m so (told a t) c a.listed (omega (arith, w.shelved.cards)))

  pub commit_sound : Sound (commit_shelf b m t)
  commit_sound = go (cases_Bool (a.opened t))
    where
      go : (a.opened t ≡ true) ⊎ (a.opened t ≡ false) → Sound (shelf_after b m (held b t) (commit_answer b m t))
      go (inl o) =
          subst (λ h. Sound (shelf_after b m h (commit_answer b m t))) (sym (held_open a b w.tied t o))
          (decided_sound (commit_answer b m t) (commit_decided a m b w t o))
      go (inr e) = subst (λ h. Sound (shelf_after b m h (commit_answer b m t))) (sym (held_shut a b w.tied t e)) so

  pub commit_watched : Watched (commit_account a t (commit_answer b m t)) (commit_shelf b m t) (commit_books b m t)
  commit_watched = go (cases_Bool (a.opened t))
    where
      go : (a.opened t ≡ true) ⊎ (a.opened t ≡ false)
          → Watched (commit_account a t (commit_answer b m t)) (shelf_after b m (held b t) (commit_answer b m t))
          (books_after b m t (held b t) (commit_answer b m t))
      go (inl o) =
          subst (λ h. Watched (commit_account a t (commit_answer b m t)) (shelf_after b m h (commit_answer b m t))
          (books_after b m t h (commit_answer b m t)))
          (sym (held_open a b w.tied t o)) (decided_left o (commit_answer b m t) (commit_decided a m b w t o))
      go (inr e) =
          subst (λ h. Watched (commit_account a t (commit_answer b m t)) (shelf_after b m h (commit_answer b m t))
          (books_after b m t h (commit_answer b m t)))
          (sym (held_shut a b w.tied t e))
          (subst (λ r. Watched (commit_account a t r) m b) (sym (shut_answer a m b w t e)) w)
