use Rattle.std.proofs.Common.{sym, ◌∙◌}
use Rattle.rows.specs.RowMeaning.{row_meaning}
use Rattle.rows.specs.RowFacts.{row_newest, used_read}
use Rattle.rows.proofs.row.answers.RowDrawersDrawers.newest.Goals as goal

pub returns : goal.returns
unfolding row_meaning
returns c =
    let s = c.args.self.now in
    used_read s c.args.card.0 c.requires c.index.result.now c.index.ensures ∙ sym (row_newest s c.args.card.0 c.requires)
