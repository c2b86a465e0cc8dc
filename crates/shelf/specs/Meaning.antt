-- What a shelf means. Which places it takes, and what its unused entries hold, is no part of this. Assumes nothing.
--     Version             a version of a card: its value, the number of its writer, and the count of its stamp at each card
--     first_version       version 0 of every card: the blank value, writer 0, a stamp of zeros
--     Meaning             how many cards a shelf has, how wide its stamps are, the versions of each card, oldest first and
--                         from version 0 on, which cards share a drawer, and the free places of each card's drawer
--     version_at m c k    version k of card c, if the shelf has it
--     newest m c          the number of card c's newest version
use Rattle.std.specs.Prelude.{ℕ, pred, Bool, List, length, Option}
use Rattle.std.specs.List.{slice_get}
use Rattle.stamps.specs.Blank.{blank}
use Rattle.stamps.specs.declared.value.Value.{Value}

pub record Version : Type 0 where
  pub value : Value
  pub writer : ℕ
  pub stamp : ℕ → ℕ

abbrev pub first_version : Version
first_version = record { value = blank; writer = 0; stamp = λ _. 0 }

-- a card past the last has no versions, no free places, and shares no drawer (`Sound`)
pub record Meaning : Type 0 where
  pub cards : ℕ
  pub width : ℕ
  pub line : ℕ → List Version
  pub shares : ℕ → ℕ → Bool
  pub free : ℕ → ℕ

abbrev pub version_at : Meaning → ℕ → ℕ → Option Version
version_at m c k = slice_get (m.line c) k

abbrev pub newest : Meaning → ℕ → ℕ
newest m c = pred (length (m.line c))
