-- What a file's lines tell of its transactions, and what the judge is asked. Assumes nothing.
--     At, Stands, WritAt, ReadAt  what stands at a place, in the words of a file's rules
--     Reads ls t x k              transaction t read version k of card x
--     Writes ls t x k             transaction t wrote version k of card x: its WRIT stands at place k - 1
--     Commits ls t                transaction t has a DONE
--     history_of ls               these three, as a history
--     CommittedReads ls          each READ names writer 0, or one whose DONE stands earlier
--     Judged ls v                 a verdict that says yes to each property exactly where it holds
-- A version's number is one more than the place of its WRIT, so that a later WRIT writes a newer version; version 0 has no WRIT.
use Rattle.std.specs.Prelude.{◌≡◌, ℕ, suc, ◌<◌, ◌⊎◌, List, Decides}
use Rattle.records.specs.declared.kind.Kind.TheVariants.{Done}
use Rattle.records.specs.declared.line.Line.{Line}
use Rattle.verdicts.specs.declared.verdict.Verdict.{Verdict}
use Rattle.isolation.specs.History.{History, ConsistentSnapshots, WriteConflictFree}
pub use Rattle.rules.specs.Lines.{At, Stands, WritAt, ReadAt}

-- version k of card x is the one that w wrote: version 0 where w is nobody
abbrev pub VersionBy : List Line → ℕ → ℕ → ℕ → Type 0
VersionBy ls w x k = ((w ≡ 0) × (k ≡ 0)) ⊎ ((j : ℕ) × (k ≡ suc j) × WritAt ls j w x)

abbrev pub Reads : List Line → ℕ → ℕ → ℕ → Type 0
Reads ls t x k = (i : ℕ) × (w : ℕ) × ReadAt ls i t x w × VersionBy ls w x k

abbrev pub Writes : List Line → ℕ → ℕ → ℕ → Type 0
Writes ls t x k = (j : ℕ) × (k ≡ suc j) × WritAt ls j t x

abbrev pub Commits : List Line → ℕ → Type 0
Commits ls t = (i : ℕ) × Stands ls i Done t

abbrev pub history_of : List Line → History
history_of ls = record { Read = Reads ls; Wrote = Writes ls; Done = Commits ls }

abbrev pub CommittedReads : List Line → Type 0
CommittedReads ls = (i t x w : ℕ) → ReadAt ls i t x w → (w ≡ 0) ⊎ ((j : ℕ) × (j < i) × Stands ls j Done w)

pub record Judged (ls : List Line) (v : Verdict) : Type 0 where
  pub aca : Decides v.aca (CommittedReads ls)
  pub cons : Decides v.cons (ConsistentSnapshots (history_of ls))
  pub wcf : Decides v.wcf (WriteConflictFree (history_of ls))
