use Rattle.std.proofs.Common.{None, sym, ap, ◌∙◌, add-one, arith}
use Rattle.tables.specs.Tables.{table_of, with_list, with_place}
use Rattle.tables.proofs.Freed.{freed, freed_more, freed_all}
use Rattle.tables.proofs.Standing.{length_list}
use Rattle.tables.proofs.table.OpenTable.clear.Goals as goal

pub loop-place-preserved : goal.loop-place-preserved
loop-place-preserved c =
    let t = table_of c.args.self.now in
    let i = c.loop-place.place in
    c.release.ensures ∙ ap (λ u. with_place u i None) c.loop-place.invariant ∙ ap (with_list t) (freed_more i t.list ∙ ap (λ n. freed n t.list) (sym (add-one i)))

pub returns : goal.returns
returns c =
    let t = table_of c.args.self.now in
    c.loop-place.invariant ∙ ap (with_list t) (ap (λ n. freed n t.list) (omega (arith, length_list c.args.self.now)) ∙ freed_all t.list)
