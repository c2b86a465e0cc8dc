use Rattle.std.proofs.Common.{◌≡◌, replicate, None}
use Rattle.tables.specs.Tables.{table_of, with_list}
use Rattle.tables.proofs.table.OpenTable.lay_out.Given as goal

abbrev pub invariant-loop-place : goal.invariant-loop-place
invariant-loop-place l = (table_of l.self ≡ with_list (table_of l.initial.self) (replicate l._place None)) × (l.self.used ≡ l._place)
