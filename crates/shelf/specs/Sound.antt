-- The laws of every shelf. Assumes nothing.
--     Narrow w v      version v's counts are at most 65,535, and 0 from the width w on
--     Sound m         m keeps the laws, each named below
use Rattle.std.specs.Prelude.{◌≡◌, ℕ, ◌+◌, ◌<◌, ◌≤◌, true, [], length, Some}
use Rattle.std.specs.List.{AllByRecursion}
use Rattle.stamps.specs.Counts.{room, most}
use Rattle.shelf.specs.Meaning.{Version, Meaning, first_version, version_at}

abbrev pub Narrow : ℕ → Version → Type 0
Narrow w v = (i : ℕ) → (v.stamp i ≤ most) × (w ≤ i → v.stamp i ≡ 0)

pub record Sound (m : Meaning) : Type 0 where
  -- at most 256 cards, and stamps of at most 256 counts
  pub few : m.cards ≤ room
  pub narrow : m.width ≤ room
  -- version 0 is there
  pub first : (c : ℕ) → c < m.cards → version_at m c 0 ≡ Some first_version
  -- a card's versions and its drawer's free places are at most 65,536
  pub roomy : (c : ℕ) → c < m.cards → length (m.line c) + m.free c ≤ 65536
  pub stamps : (c : ℕ) → AllByRecursion (Narrow m.width) (m.line c)
  -- sharing a drawer is an equivalence on the cards of the shelf, and no other card shares one
  pub shares_itself : (c : ℕ) → c < m.cards → m.shares c c ≡ true
  pub shares_back : (a b : ℕ) → m.shares a b ≡ true → m.shares b a ≡ true
  pub shares_on : (a b c : ℕ) → m.shares a b ≡ true → m.shares b c ≡ true → m.shares a c ≡ true
  pub shares_listed : (a b : ℕ) → m.shares a b ≡ true → a < m.cards
  -- cards that share a drawer have its free places
  pub drawer : (a b : ℕ) → m.shares a b ≡ true → m.free a ≡ m.free b
  -- past the last card there is nothing
  pub no_line : (c : ℕ) → m.cards ≤ c → m.line c ≡ []
  pub no_free : (c : ℕ) → m.cards ≤ c → m.free c ≡ 0
