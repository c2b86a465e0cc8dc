-- What a watched read leaves is watched.
use Rattle.std.proofs.Common.{◌≡◌, ℕ, ◌<◌, ◌≤◌, Bool, true, false, cond, ◌⊎◌, [], ◌∷◌, ◌++◌, sym, refl, ◌∙◌, subst, inl, inr}
use Rattle.std.proofs.lemmas.Bool.{cases_Bool, cases_lt}
use Rattle.shelf.specs.Meaning.{Meaning}
use Rattle.isolation.specs.Account.{Account, has_read, enter_read, after_read}
use Rattle.isolation.proofs.Lists.{at_one_here, at_one_there}
use Rattle.transactions.specs.State.{Open, State, held, put_back}
use Rattle.transactions.specs.Calls.{read_answer, enter, with_read, read_entered, after_read as read-books}
use Rattle.transactions.specs.Kept.{read_account}
use Rattle.transactions.specs.Watched.{told, Watched}
use Rattle.transactions.proofs.Ties.{held_open}
use Rattle.transactions.proofs.Changing.{Changes, watched_told}
use Rattle.transactions.proofs.ReadCall.{Chosen, choose, read_listed, read_unlisted, chosen_lawful, shut_answer}

module _ (a : Account) (t x k : ℕ) where
  entered_changes : (h : Bool) → Changes a (cond h a (enter_read a t x k)) t
  entered_changes true = record {
    others = record { opened = λ u ne. refl; reads = λ u ne. refl; drafts = λ u ne. refl };
    same = record { listed = refl; newest = refl; writer = refl; value = refl };
    given = refl;
  }
  entered_changes false = record {
    others = record {
      opened = λ u ne. refl;
      reads = λ u ne. at_one_there a.reads t (a.reads t ++ (record { card = x; version = k } ∷ [])) u ne;
      drafts = λ u ne. refl;
    };
    same = record { listed = refl; newest = refl; writer = refl; value = refl };
    given = refl;
  }

  entered_opened : (h : Bool) → (cond h a (enter_read a t x k)).opened t ≡ a.opened t
  entered_opened true = refl
  entered_opened false = refl

  entered_told : (h : Bool) → ◌≡◌ {A = Open}
      (record { number = t; reads = cond h (a.reads t) (a.reads t ++ (record { card = x; version = k } ∷ [])); drafts = a.drafts t })
      (told (cond h a (enter_read a t x k)) t)
  entered_told true = refl
  entered_told false = λ z. record {
    number = t;
    reads = sym (at_one_here a.reads t (a.reads t ++ (record { card = x; version = k } ∷ [])) t refl) z;
    drafts = a.drafts t;
  }

module _ (a : Account) (m : Meaning) (b : State) (w : Watched a m b) (t x : ℕ) where
  granted_left : (o : a.opened t ≡ true) (lx : x < a.listed) (k : ℕ) → Chosen a m t x k
      → Watched (after_read a t x k) m (put_back b t (with_read (held b t) x k))
  granted_left o lx k c =
      subst (λ h. Watched (after_read a t x k) m (put_back b t (with_read h x k))) (sym (held_open a b w.tied t o))
      (watched_told a (after_read a t x k) m b t
      (record { number = t; reads = enter (a.reads t) x k; drafts = a.drafts t }) w o
      (entered_changes a t x k (has_read (a.reads t) x)) (chosen_lawful a m b w t x o lx k c)
      (entered_opened a t x k (has_read (a.reads t) x) ∙ o) (entered_told a t x k (has_read (a.reads t) x)))

  pub read_watched : Watched (read_account a t x (read_answer b m t x)) m (read-books b m t x)
  read_watched = go (cases_Bool (a.opened t)) (cases_lt x a.listed)
    where
      go : (a.opened t ≡ true) ⊎ (a.opened t ≡ false) → (x < a.listed) ⊎ (a.listed ≤ x)
          → Watched (read_account a t x (read_answer b m t x)) m (read_entered b t x (read_answer b m t x))
      go (inr e) q =
          subst (λ r. Watched (read_account a t x r) m (read_entered b t x r)) (sym (shut_answer a m b w t x e)) w
      go (inl o) (inr q) =
          subst (λ r. Watched (read_account a t x r) m (read_entered b t x r)) (sym (read_unlisted a m b w t x o q)) w
      go (inl o) (inl q) =
          let (k, c) = choose a m b w t x q in
          subst (λ r. Watched (read_account a t x r) m (read_entered b t x r)) (sym (read_listed a m b w t x o q k c)) (granted_left o q k c)
