-- A watched abandon obeys the law, and what it and a close leave is watched.
use Rattle.std.proofs.Common.{◌≡◌, ℕ, true, false, ◌⊎◌, length, None, Ok, Err, sym, refl, ap, subst, inl, inr}
use Rattle.std.proofs.lemmas.Bool.{cases_Bool, both_ways}
use Rattle.shelf.specs.Meaning.{Meaning}
use Rattle.isolation.specs.Account.{Account, after_end, after_close}
use Rattle.isolation.proofs.Lists.{at_one_here, at_one_there}
use Rattle.isolation.proofs.Steps.{end_lawful, close_lawful}
use Rattle.transactions.specs.declared.refusal.Refusal.TheVariants as refusals
use Rattle.transactions.specs.State.{State, with_places, placed}
use Rattle.transactions.specs.Choosing.{stamps_of}
use Rattle.transactions.specs.Calls.{if_held, abandon_answer, after_end as end-books, after_close as close-books}
use Rattle.transactions.specs.Law.{EndLaw}
use Rattle.transactions.specs.Kept.{end_account}
use Rattle.transactions.specs.Watched.{Watched}
use Rattle.transactions.proofs.Ties.{held_open, held_shut, place_shut, tied_empty}
use Rattle.transactions.proofs.Seen.{shelved_same}
use Rattle.transactions.proofs.Journaling.{journal_stays}
use Rattle.transactions.proofs.Changing.{Changes, watched_ended}

pub end_changes : (a : Account) (t : ℕ) → Changes a (after_end a t) t
end_changes a t = record {
  others = record { opened = λ u ne. at_one_there a.opened t false u ne; reads = λ u ne. refl; drafts = λ u ne. refl };
  same = record { listed = refl; newest = refl; writer = refl; value = refl };
  given = refl;
}

module _ (a : Account) (m : Meaning) (b : State) (w : Watched a m b) where
  -- an open transaction ended without a commit
  pub ended_left : (t : ℕ) → a.opened t ≡ true → Watched (after_end a t) m (end-books b t)
  ended_left t o =
      watched_ended a (after_end a t) m b t w o (end_changes a t) (end_lawful a (stamps_of m) t w.lawful)
      (λ e. both_ways ((after_end a t).opened t) (at_one_here a.opened t false t refl) e)

  -- a number that is not open has no place to free
  unknown_left : (t : ℕ) → a.opened t ≡ false → Watched a m (end-books b t)
  unknown_left t e = subst (λ i. Watched a m (with_places b (placed b.places i None))) (sym (place_shut a b.places w.tied t e)) w

  granted_answer : (t : ℕ) → a.opened t ≡ true → abandon_answer b t ≡ Ok tt
  granted_answer t o = ap if_held (held_open a b w.tied t o)

  shut_answer : (t : ℕ) → a.opened t ≡ false → abandon_answer b t ≡ Err refusals.NotOpen
  shut_answer t e = ap if_held (held_shut a b w.tied t e)

  pub abandon_law : (t : ℕ) → EndLaw a t (abandon_answer b t)
  abandon_law t = record { granted = granted_answer t; shut = shut_answer t }

  pub abandon_watched : (t : ℕ) → Watched (end_account a t (abandon_answer b t)) m (end-books b t)
  abandon_watched t = go (cases_Bool (a.opened t))
    where
      go : (a.opened t ≡ true) ⊎ (a.opened t ≡ false) → Watched (end_account a t (abandon_answer b t)) m (end-books b t)
      go (inl o) = subst (λ r. Watched (end_account a t r) m (end-books b t)) (sym (granted_answer t o)) (ended_left t o)
      go (inr e) = subst (λ r. Watched (end_account a t r) m (end-books b t)) (sym (shut_answer t e)) (unknown_left t e)

  pub close_watched : Watched (after_close a) m (close-books b)
  close_watched = record {
    shelved = shelved_same a (after_close a) m (record { listed = refl; newest = refl; writer = refl; value = refl }) w.shelved;
    lawful = close_lawful a (stamps_of m) w.lawful;
    tied = tied_empty (after_close a) (length b.places) (λ t. refl);
    cards = w.cards;
    width = w.width;
    given = w.given;
    few = w.few;
    journaled = journal_stays a (after_close a) b.journal (record { listed = refl; newest = refl; writer = refl; value = refl }) (λ t q. refl)
        w.journaled;
  }
