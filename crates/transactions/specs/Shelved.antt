-- What is promised of the shelf: it holds what the account tells, and its stamps are the dependence vectors. Assumes nothing.
--     Held a m x k                the shelf has version k of card x, with the account's words and writer
--     Shelved a m                 the shelf has the account's cards and versions, and no others
--     Stamped a m                 the shelf has a stamp for each of the account's versions, and they are its dependence vectors: they satisfy the
--                                 equations, and nothing else does
use Rattle.std.specs.Prelude.{◌≡◌, ℕ, suc, ◌<◌, ◌≤◌, true, length, is_some, Some}
use Rattle.shelf.specs.Meaning.{Version, Meaning, version_at}
use Rattle.isolation.specs.Account.{Account}
use Rattle.isolation.specs.Vectors.{Stamps, Vectors, Alike}
use Rattle.transactions.specs.Choosing.{stamps_of}

pub record Held (a : Account) (m : Meaning) (x k : ℕ) : Type 0 where
  pub version : Version
  pub at : version_at m x k ≡ Some version
  pub words : version.value ≡ a.value x k
  pub writer : version.writer ≡ a.writer x k

pub record Shelved (a : Account) (m : Meaning) : Type 0 where
  pub cards : m.cards ≡ a.listed
  pub wide : a.listed ≤ m.width
  pub versions : (x : ℕ) → x < a.listed → length (m.line x) ≡ suc (a.newest x)
  pub holds : (x k : ℕ) → x < a.listed → k ≤ a.newest x → Held a m x k

pub record Stamped (a : Account) (m : Meaning) : Type 0 where
  pub there : (x k : ℕ) → x < a.listed → k ≤ a.newest x → is_some (version_at m x k) ≡ true
  pub solves : Vectors a (stamps_of m)
  pub alone : (s : Stamps) → Vectors a s → Alike a (stamps_of m) s
