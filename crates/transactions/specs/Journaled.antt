-- What ties the journal to the account. A reader need not believe it: set-up begins it, every call carries it on, and what is promised of the
-- journal follows from it. Assumes nothing.
--     Writer a t                  t wrote some version of some card
--     Named a x k w               a READ of version k of card x names w: nobody for version 0, else the version's writer
--     Journaled a ls              the lines ls are the reads and writes of the account's writers, each commit's together, older versions first
use Rattle.std.specs.Prelude.{◌≡◌, ℕ, ◌<◌, ◌⊎◌, List, Some}
use Rattle.std.specs.List.{slice_get}
use Rattle.records.specs.declared.line.Line.{Line}
use Rattle.rules.specs.Lines.{LineRules}
use Rattle.verdicts.specs.Verdicts.{WritAt, ReadAt, Commits, CommittedReads}
use Rattle.isolation.specs.Account.{Account}
use Rattle.isolation.specs.AccountHistory.{Reads, Writes, WritesCard}

abbrev pub Writer : Account → ℕ → Type 0
Writer a t = (x : ℕ) × WritesCard a t x

abbrev pub Named : Account → (x k w : ℕ) → Type 0
Named a x k w = ((k ≡ 0) × (w ≡ 0)) ⊎ Writes a w x k

pub record Journaled (a : Account) (ls : List Line) : Type 0 where
  -- every line is of a transaction that wrote something, and it has its DONE
  pub by_writer : (i : ℕ) (l : Line) → slice_get ls i ≡ Some l → Writer a l.transaction.0
  pub done : (t : ℕ) → Writer a t → Commits ls t
  -- the WRITs are the versions above 0, each once, older ones first
  pub writ : (j t x : ℕ) → WritAt ls j t x → WritesCard a t x
  pub made : (t x k : ℕ) → Writes a t x k → (j : ℕ) × WritAt ls j t x
  pub once : (i j t x : ℕ) → WritAt ls i t x → WritAt ls j t x → i ≡ j
  pub order : (i j t u x k n : ℕ) → WritAt ls i t x → WritAt ls j u x → Writes a t x k → Writes a u x n → k < n → i < j
  -- the READs are all that these transactions read
  pub read : (i t x w : ℕ) → ReadAt ls i t x w → (k : ℕ) × Reads a t x k × Named a x k w
  pub reads : (t x k : ℕ) → Writer a t → Reads a t x k → (i : ℕ) × (w : ℕ) × ReadAt ls i t x w × Named a x k w
  pub lines : LineRules ls
  pub committed : CommittedReads ls
