-- A watched draft obeys the law, and what it leaves is watched.
use Rattle.std.proofs.Common.{◌≡◌, ℕ, ◌<◌, ◌≤◌, true, false, cond, ◌||◌, ltb, ◌⊎◌, length, Some, Ok, Err, Result, sym, refl, ap, ◌∙◌, subst, inl, inr, arith}
use Rattle.std.proofs.lemmas.Bool.{cases_Bool, cases_lt, cond-true, cond-false, lt-ltb, le-ltb, or_left, or_right, or_from}
use Rattle.stamps.specs.declared.value.Value.{Value}
use Rattle.shelf.specs.Meaning.{Meaning}
use Rattle.isolation.specs.Account.{Account, has_read, drafted, with_draft, after_draft}
use Rattle.isolation.proofs.Lists.{at_one_here, at_one_there, read_some, some_read}
use Rattle.isolation.proofs.Steps.{draft_lawful}
use Rattle.transactions.specs.declared.refusal.Refusal.{Refusal}
use Rattle.transactions.specs.declared.refusal.Refusal.TheVariants as refusals
use Rattle.transactions.specs.State.{Open, State, most_drafts, held, put_back}
use Rattle.transactions.specs.Choosing.{stamps_of}
use Rattle.transactions.specs.Calls.{if_granted, draft_by, draft_answer, with_words, after_draft as draft-books}
use Rattle.transactions.specs.Law.{DraftLaw}
use Rattle.transactions.specs.Kept.{draft_account}
use Rattle.transactions.specs.Watched.{told, Watched}
use Rattle.transactions.proofs.Ties.{held_open, held_shut}
use Rattle.transactions.proofs.Changing.{Changes, watched_told}

module _ (a : Account) (m : Meaning) (b : State) (w : Watched a m b) (t x : ℕ) where
  shut_answer : a.opened t ≡ false → draft_answer b t x ≡ Err refusals.NotOpen
  shut_answer e = ap (draft_by b x) (held_shut a b w.tied t e)

  -- the two inner tests
  room_test : Result (Unit {0}) Refusal
  room_test = cond (drafted (a.drafts t) x || ltb (length (a.drafts t)) most_drafts) (Ok tt) (Err refusals.DraftsOut)

  read_test : Result (Unit {0}) Refusal
  unfolding room_test
  read_test = cond (has_read (a.reads t) x) room_test (Err refusals.Unread)

  -- a card that was read is listed
  read_card_listed : has_read (a.reads t) x ≡ true → x < a.listed
  read_card_listed h = let (k, r) = read_some (a.reads t) x h in w.lawful.meant.read_listed t x k r

  module _ (o : a.opened t ≡ true) where
    by_told : draft_answer b t x ≡ draft_by b x (Some (told a t))
    by_told = ap (draft_by b x) (held_open a b w.tied t o)

    unlisted_answer : a.listed ≤ x → draft_answer b t x ≡ Err refusals.NoCard
    unlisted_answer le = by_told ∙ cond-false (ltb x b.cards) _ (Err refusals.NoCard) (le-ltb x b.cards (omega (arith, w.cards)))

    listed_answer : x < a.listed → draft_answer b t x ≡ read_test
    unfolding read_test room_test
    listed_answer lx = by_told ∙ cond-true (ltb x b.cards) _ (Err refusals.NoCard) (lt-ltb x b.cards (omega (arith, w.cards)))

    unread_answer : x < a.listed → has_read (a.reads t) x ≡ false → draft_answer b t x ≡ Err refusals.Unread
    unfolding read_test
    unread_answer lx h = listed_answer lx ∙ cond-false (has_read (a.reads t) x) room_test (Err refusals.Unread) h

    read_card_answer : has_read (a.reads t) x ≡ true → draft_answer b t x ≡ room_test
    unfolding read_test
    read_card_answer h = listed_answer (read_card_listed h) ∙ cond-true (has_read (a.reads t) x) room_test (Err refusals.Unread) h

    granted_answer : has_read (a.reads t) x ≡ true → (drafted (a.drafts t) x || ltb (length (a.drafts t)) most_drafts) ≡ true
        → draft_answer b t x ≡ Ok tt
    unfolding room_test
    granted_answer h q =
        read_card_answer h ∙ cond-true (drafted (a.drafts t) x || ltb (length (a.drafts t)) most_drafts) (Ok tt) (Err refusals.DraftsOut) q

    full_answer : has_read (a.reads t) x ≡ true → (drafted (a.drafts t) x || ltb (length (a.drafts t)) most_drafts) ≡ false
        → draft_answer b t x ≡ Err refusals.DraftsOut
    unfolding room_test
    full_answer h q =
        read_card_answer h ∙ cond-false (drafted (a.drafts t) x || ltb (length (a.drafts t)) most_drafts) (Ok tt) (Err refusals.DraftsOut) q

  pub draft_law : DraftLaw a t x (draft_answer b t x)
  draft_law = record {
    again = λ o d. let (k, r) = w.lawful.kept.drafted_read t x d in
        granted_answer o (some_read (a.reads t) x k r) (or_left (drafted (a.drafts t) x) (ltb (length (a.drafts t)) most_drafts) d);
    granted = λ o h lt. granted_answer o h
        (or_right (drafted (a.drafts t) x) (ltb (length (a.drafts t)) most_drafts) (lt-ltb (length (a.drafts t)) most_drafts lt));
    full = λ o h d le. full_answer o h
        (or_from (drafted (a.drafts t) x) (ltb (length (a.drafts t)) most_drafts) d (le-ltb (length (a.drafts t)) most_drafts le));
    unread = unread_answer;
    unlisted = unlisted_answer;
    shut = shut_answer;
  }

  module _ (v : Value) where
    draft_changes : Changes a (after_draft a t x v) t
    draft_changes = record {
      others = record {
        opened = λ u ne. refl;
        reads = λ u ne. refl;
        drafts = λ u ne. at_one_there a.drafts t (with_draft (a.drafts t) x v) u ne;
      };
      same = record { listed = refl; newest = refl; writer = refl; value = refl };
      given = refl;
    }

    draft_told : ◌≡◌ {A = Open} (record { number = t; reads = a.reads t; drafts = with_draft (a.drafts t) x v }) (told (after_draft a t x v) t)
    draft_told = λ z. record {
      number = t;
      reads = a.reads t;
      drafts = sym (at_one_here a.drafts t (with_draft (a.drafts t) x v) t refl) z;
    }

    granted_left : a.opened t ≡ true → has_read (a.reads t) x ≡ true
        → Watched (after_draft a t x v) m (put_back b t (with_words (held b t) x v))
    granted_left o h =
        subst (λ p. Watched (after_draft a t x v) m (put_back b t (with_words p x v))) (sym (held_open a b w.tied t o))
        (watched_told a (after_draft a t x v) m b t
        (record { number = t; reads = a.reads t; drafts = with_draft (a.drafts t) x v }) w o draft_changes
        (draft_lawful a (stamps_of m) t x v w.lawful (read_some (a.reads t) x h)) o draft_told)

    pub draft_watched : Watched (draft_account a t x v (draft_answer b t x)) m (draft-books b t x v)
    draft_watched = go (cases_Bool (a.opened t)) (cases_lt x a.listed) (cases_Bool (has_read (a.reads t) x))
        (cases_Bool (drafted (a.drafts t) x || ltb (length (a.drafts t)) most_drafts))
      where
        refused : (f : Refusal) → draft_answer b t x ≡ Err f → Watched (draft_account a t x v (draft_answer b t x)) m (draft-books b t x v)
        refused f e =
            subst (λ r. Watched (draft_account a t x v r) m (if_granted r (put_back b t (with_words (held b t) x v)) b)) (sym e) w

        go : (a.opened t ≡ true) ⊎ (a.opened t ≡ false) → (x < a.listed) ⊎ (a.listed ≤ x)
            → (has_read (a.reads t) x ≡ true) ⊎ (has_read (a.reads t) x ≡ false)
            → ((drafted (a.drafts t) x || ltb (length (a.drafts t)) most_drafts) ≡ true)
            ⊎ ((drafted (a.drafts t) x || ltb (length (a.drafts t)) most_drafts) ≡ false)
            → Watched (draft_account a t x v (draft_answer b t x)) m (draft-books b t x v)
        go (inr e) l h q = refused refusals.NotOpen (shut_answer e)
        go (inl o) (inr le) h q = refused refusals.NoCard (unlisted_answer o le)
        go (inl o) (inl lx) (inr h) q = refused refusals.Unread (unread_answer o lx h)
        go (inl o) (inl lx) (inl h) (inr q) = refused refusals.DraftsOut (full_answer o h q)
        go (inl o) (inl lx) (inl h) (inl q) =
            subst (λ r. Watched (draft_account a t x v r) m (if_granted r (put_back b t (with_words (held b t) x v)) b))
            (sym (granted_answer o h q)) (granted_left o h)
