-- What ties the account to a shelf and to books. A reader need not believe it: set-up begins it, every call carries it on, and the law of
-- each call follows from it. Assumes nothing.
--     told a t                    the open transaction t, as the account tells it
--     Tied a ps                   the open places ps hold the account's open transactions, each once
--     Watched a m b               all that is so from a granted set-up on
use Rattle.std.specs.Prelude.{◌≡◌, ℕ, ◌≤◌, true, List, Some, Option}
use Rattle.std.specs.List.{slice_get}
use Rattle.shelf.specs.Meaning.{Meaning}
use Rattle.isolation.specs.Account.{Account}
use Rattle.isolation.specs.Lawful.{Lawful}
use Rattle.transactions.specs.State.{Open, State, most_numbers}
use Rattle.transactions.specs.Choosing.{stamps_of}
use Rattle.transactions.specs.Shelved.{Shelved}
use Rattle.transactions.specs.Journaled.{Journaled}

abbrev pub told : Account → ℕ → Open
told a t = record { number = t; reads = a.reads t; drafts = a.drafts t }

pub record Tied (a : Account) (ps : List (Option Open)) : Type 0 where
  -- a place in use has an open transaction, as the account tells it
  pub is_open : (i : ℕ) (o : Open) → slice_get ps i ≡ Some (Some o) → a.opened o.number ≡ true
  pub is_told : (i : ℕ) (o : Open) → slice_get ps i ≡ Some (Some o) → o ≡ told a o.number
  -- each open transaction has a place, and no other
  pub has_place : (t : ℕ) → a.opened t ≡ true → (i : ℕ) × (slice_get ps i ≡ Some (Some (told a t)))
  pub alone : (i j : ℕ) (o p : Open) → slice_get ps i ≡ Some (Some o) → slice_get ps j ≡ Some (Some p) → o.number ≡ p.number → i ≡ j

pub record Watched (a : Account) (m : Meaning) (b : State) : Type 0 where
  pub shelved : Shelved a m
  pub lawful : Lawful a (stamps_of m)
  pub tied : Tied a b.places
  pub cards : b.cards ≡ a.listed
  pub width : b.width ≡ m.width
  pub given : b.given ≡ a.given
  pub few : a.given ≤ most_numbers
  pub journaled : Journaled a b.journal
