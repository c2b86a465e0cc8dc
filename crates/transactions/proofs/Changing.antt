-- A step that changes one transaction of the account, and its open place.
use Rattle.std.proofs.Common.{◌≡◌, ℕ, ◌≤◌, true, Some, None, Option, sym, ap, ◌∙◌, subst}
use Rattle.shelf.specs.Meaning.{Meaning}
use Rattle.isolation.specs.Account.{Account}
use Rattle.isolation.specs.AccountHistory.{Writes}
use Rattle.isolation.specs.Lawful.{Kept, Lawful}
use Rattle.isolation.proofs.Reading.{open_silent}
use Rattle.transactions.specs.State.{Open, State, most_numbers, put_back}
use Rattle.transactions.specs.Choosing.{stamps_of}
use Rattle.transactions.specs.Journaled.{Writer}
use Rattle.transactions.specs.Watched.{told, Watched}
use Rattle.transactions.proofs.Places.{none_some, some_same}
use Rattle.transactions.proofs.Ties.{Others, tied_placed}
use Rattle.transactions.proofs.Seen.{SameShelf, shelved_same}
use Rattle.transactions.proofs.Journaling.{journal_stays}

-- an account c in which t alone may be other than in a, and the shelf is the same
pub record Changes (a c : Account) (t : ℕ) : Type 0 where
  pub others : Others a c t
  pub same : SameShelf a c
  pub given : c.given ≡ a.given

-- an open transaction wrote nothing
open_unwritten : (a : Account) → Kept a → (t : ℕ) → a.opened t ≡ true → (u : ℕ) → Writer a u → u ≡ t → ⊥
open_unwritten a k t o u (x, (n, w)) e = open_silent a k t o x n (subst (λ v. Writes a v x n) e w)

-- what t's place then holds, and the rest of what is watched
pub watched_change : (a c : Account) (m : Meaning) (b : State) (t : ℕ) (v : Option Open) → Watched a m b → a.opened t ≡ true → Changes a c t
    → Lawful c (stamps_of m) → ((o : Open) → v ≡ Some o → (c.opened t ≡ true) × (o ≡ told c t)) → (c.opened t ≡ true → v ≡ Some (told c t))
    → Watched c m (put_back b t v)
watched_change a c m b t v w o s l opens into = record {
  shelved = shelved_same a c m s.same w.shelved;
  lawful = l;
  tied = tied_placed a c b.places t v w.tied o s.others opens into;
  cards = w.cards ∙ sym s.same.listed;
  width = w.width;
  given = w.given ∙ sym s.given;
  few = subst (λ n. n ≤ most_numbers) (sym s.given) w.few;
  journaled = journal_stays a c b.journal s.same (λ u q. s.others.reads u (λ e. open_unwritten a w.lawful.kept t o u q e)) w.journaled;
}

-- t stays open, and its place holds it as it now is
pub watched_told : (a c : Account) (m : Meaning) (b : State) (t : ℕ) (n : Open) → Watched a m b → a.opened t ≡ true → Changes a c t
    → Lawful c (stamps_of m) → c.opened t ≡ true → n ≡ told c t → Watched c m (put_back b t (Some n))
watched_told a c m b t n w o s l p e =
    watched_change a c m b t (Some n) w o s l (λ q r. (p, sym (some_same r) ∙ e)) (λ r. ap Some e)

-- t is open no more, and its place is free
pub watched_ended : (a c : Account) (m : Meaning) (b : State) (t : ℕ) → Watched a m b → a.opened t ≡ true → Changes a c t
    → Lawful c (stamps_of m) → (c.opened t ≡ true → ⊥) → Watched c m (put_back b t None)
watched_ended a c m b t w o s l p =
    watched_change a c m b t None w o s l (λ q r. absurd (none_some r)) (λ r. absurd (p r))
