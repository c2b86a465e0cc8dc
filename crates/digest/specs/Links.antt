-- How the entries are listed: one place for each entry, under a node that is computed from it. Assumes nothing.
--     tx_node e                   the node of an entry's transaction; others may share it
--     Linked count comes key es n     there are n places, and place k comes from the node of entry k, for each of the first n entries
use Rattle.std.specs.Prelude.{◌≡◌, ℕ, ◌%◌, ◌<◌, Bool, true, List}
use Rattle.digest.specs.declared.entry.Entry.{Entry}
use Rattle.digest.specs.Entries.{at}

abbrev pub tx_node : Entry → ℕ
tx_node e = e.transaction.0 % 2048

pub record Linked (count : ℕ) (comes : ℕ → ℕ → Bool) (key : Entry → ℕ) (es : List Entry) (n : ℕ) : Type 0 where
  pub each : count ≡ n
  pub by : (k : ℕ) → k < n → comes (key (at es k)) k ≡ true
