use Rattle.std.proofs.Common.{arith}
use Rattle.rows.specs.RowMeaning.{row_meaning}
use Rattle.rows.specs.RowFacts.{row_free, used_read}
use Rattle.rows.proofs.row.answers.RowDrawersDrawers.free.Goals as goal

pub overflow_sub-result : goal.overflow_sub-result
unfolding row_meaning
overflow_sub-result c =
    let s = c.args.self.now in
    omega (arith, used_read s c.args.card.0 c.requires c.index.result.now c.index.ensures, s.kept c.args.card.0 c.requires)

pub returns : goal.returns
unfolding row_meaning
returns c =
    let s = c.args.self.now in
    omega (arith, used_read s c.args.card.0 c.requires c.index.result.now c.index.ensures, row_free s c.args.card.0 c.requires)
