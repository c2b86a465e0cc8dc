-- Each promise, for a call that answers and leaves what is defined: the equations are those of the calls' own contracts.
use Rattle.std.proofs.Common.{◌≡◌, ℕ, Err, Result, sym, ◌∙◌, subst}
use Rattle.stamps.specs.declared.value.Value.{Value}
use Rattle.shelf.specs.Meaning.{Meaning}
use Rattle.shelf.specs.Sound.{Sound}
use Rattle.isolation.specs.Account.{Account, fresh, after_close}
use Rattle.transactions.specs.declared.reading.Reading.{Reading as Answer}
use Rattle.transactions.specs.declared.refusal.Refusal.{Refusal}
use Rattle.transactions.specs.State.{State}
use Rattle.transactions.specs.Calls.{set_up_answer, after_set_up, open_answer, Opens, read_answer, after_read, draft_answer, after_draft, abandon_answer, after_end}
use Rattle.transactions.specs.Calls.{after_close as close-books}
use Rattle.transactions.specs.Committing.{commit_answer, commit_shelf, commit_books}
use Rattle.transactions.specs.Kept.{open_account, read_account, draft_account, commit_account, end_account}
use Rattle.transactions.specs.Law.{OpenLaw, ReadLaw, DraftLaw, CommitLaw, EndLaw}
use Rattle.transactions.specs.Watched.{Watched}
use Rattle.transactions.specs.Promises.{Upheld, SetUpPromise, ReadRefusal, CommitRefusal, OpenPromise, ReadPromise, DraftPromise, CommitPromise, AbandonPromise, ClosePromise}
use Rattle.transactions.proofs.Theorems.{set_up_begins, refused_set_up_keeps, read_elsewhere_keeps, commit_elsewhere_keeps, open_keeps, read_keeps, draft_keeps, commit_keeps, abandon_keeps, close_keeps, shelf_is_told, stamps_are_vectors, account_is_isolated, journal_is_history}

pub upheld : (a : Account) (m : Meaning) (b : State) → Watched a m b → Upheld a m b
upheld a m b w =
    let (r, c) = journal_is_history a m b w in
    record {
      watched = w;
      shelf = shelf_is_told a m b w;
      stamps = stamps_are_vectors a m b w;
      isolated = account_is_isolated a m b w;
      rules = r;
      clean = c;
    }

pub set_up_promised : (m : Meaning) (b c : State) (r : Result (Unit {0}) Refusal) → Sound m → r ≡ set_up_answer b m → c ≡ after_set_up b m
    → SetUpPromise m b r c
set_up_promised m b c r s e f = record {
  granted = λ g. upheld (fresh m.cards) m c (subst (Watched (fresh m.cards) m) (sym f) (set_up_begins m b s (sym e ∙ g)));
  refused = λ g q a n w. upheld a n c (subst (Watched a n) (sym f) (refused_set_up_keeps a n m b g w (sym e ∙ q)));
}

pub read_refusal : (m : Meaning) (b c : State) (t x : ℕ) (r : Result Answer Refusal) → r ≡ read_answer b m t x → c ≡ after_read b m t x
    → ReadRefusal b r c
read_refusal m b c t x r e f g q a n w =
    let (l, v) = read_elsewhere_keeps a n m b t x g w (sym e ∙ q) in
    upheld a n c (subst (Watched a n) (sym f) v)

pub commit_refusal : (m : Meaning) (b c : State) (t : ℕ) (r : Result (Unit {0}) Refusal) → r ≡ commit_answer b m t → c ≡ commit_books b m t
    → CommitRefusal b t r c
commit_refusal m b c t r e f g q a n w =
    let (l, v) = commit_elsewhere_keeps a n m b t g w (sym e ∙ q) in
    upheld (commit_account a t r) n c
    (subst (λ z. Watched (commit_account a t z) n c) (sym q) (subst (Watched (commit_account a t (Err g)) n) (sym f) v))

pub open_promised : (m : Meaning) (b c : State) (r : Result ℕ Refusal) → r ≡ open_answer b → Opens b (open_answer b) c → OpenPromise m b r c
open_promised m b c r e o a w =
    let (l, v) = open_keeps a m b c w o in
    (subst (OpenLaw a) (sym e) l, upheld (open_account a r) m c (subst (λ z. Watched (open_account a z) m c) (sym e) v))

pub read_promised : (m : Meaning) (b c : State) (t x : ℕ) (r : Result Answer Refusal) → r ≡ read_answer b m t x → c ≡ after_read b m t x
    → ReadPromise m b t x r c
read_promised m b c t x r e f a w =
    let (l, v) = read_keeps a m b t x w in (
      subst (ReadLaw a t x) (sym e) l,
      upheld (read_account a t x r) m c
          (subst (λ z. Watched (read_account a t x z) m c) (sym e) (subst (Watched (read_account a t x (read_answer b m t x)) m) (sym f) v)),
    )

pub draft_promised : (m : Meaning) (b c : State) (t x : ℕ) (v : Value) (r : Result (Unit {0}) Refusal) → r ≡ draft_answer b t x
    → c ≡ after_draft b t x v → DraftPromise m b t x v r c
draft_promised m b c t x v r e f a w =
    let (l, u) = draft_keeps a m b t x v w in (
      subst (DraftLaw a t x) (sym e) l,
      upheld (draft_account a t x v r) m c
          (subst (λ z. Watched (draft_account a t x v z) m c) (sym e) (subst (Watched (draft_account a t x v (draft_answer b t x)) m) (sym f) u)),
    )

pub commit_promised : (m n : Meaning) (b c : State) (t : ℕ) (r : Result (Unit {0}) Refusal) → Sound m → r ≡ commit_answer b m t
    → n ≡ commit_shelf b m t → c ≡ commit_books b m t → CommitPromise m b t r n c
commit_promised m n b c t r s e g f a w =
    let (l, v) = commit_keeps a m b t s w in (
      subst (CommitLaw a t) (sym e) l,
      upheld (commit_account a t r) n c
          (subst (λ z. Watched (commit_account a t z) n c) (sym e)
          (subst (λ z. Watched (commit_account a t (commit_answer b m t)) z c) (sym g)
          (subst (Watched (commit_account a t (commit_answer b m t)) (commit_shelf b m t)) (sym f) v))),
    )

pub abandon_promised : (m : Meaning) (b c : State) (t : ℕ) (r : Result (Unit {0}) Refusal) → r ≡ abandon_answer b t → c ≡ after_end b t
    → AbandonPromise m b t r c
abandon_promised m b c t r e f a w =
    let (l, v) = abandon_keeps a m b t w in (
      subst (EndLaw a t) (sym e) l,
      upheld (end_account a t r) m c
          (subst (λ z. Watched (end_account a t z) m c) (sym e) (subst (Watched (end_account a t (abandon_answer b t)) m) (sym f) v)),
    )

pub close_promised : (m : Meaning) (b c : State) → c ≡ close-books b → ClosePromise m b c
close_promised m b c f a w = upheld (after_close a) m c (subst (Watched (after_close a) m) (sym f) (close_keeps a m b w))
