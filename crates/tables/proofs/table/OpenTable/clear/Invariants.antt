use Rattle.std.proofs.Common.{◌≡◌}
use Rattle.tables.specs.Tables.{list_of, table_of, with_list}
use Rattle.tables.proofs.Freed.{freed}
use Rattle.tables.proofs.table.OpenTable.clear.Given as goal

abbrev pub invariant-loop-place : goal.invariant-loop-place
invariant-loop-place l = table_of l.self ≡ with_list (table_of l.initial.self) (freed l.place (list_of l.initial.self))
