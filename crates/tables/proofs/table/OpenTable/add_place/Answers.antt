use Rattle.std.proofs.Common.{None, take, vec_items, ap, ◌∙◌, arith}
use Rattle.std.proofs.lemmas.List.{take_more_set}
use Rattle.tables.specs.Rows.{each, stands}
use Rattle.tables.specs.Tables.{table_of, with_list}
use Rattle.tables.proofs.Each.{each_push}
use Rattle.tables.proofs.table.OpenTable.add_place.Goals as goal

pub returns : goal.returns
returns c =
    let t = c.args.self.now in
    let ps = vec_items t.places in
    let f = stands t.reads.width (vec_items t.reads.items) (vec_items t.drafts.items) in
    record {
      table =
          ap (with_list (table_of t))
          (ap (each f 0) (take_more_set ps t.used None (omega (arith, c.requires.listed, t.places.ok.0)))
          ∙ each_push f 0 (take t.used ps) None);
      used = omega arith;
    }
