use Rattle.std.proofs.Common.{◌-◌, arith}
use Rattle.rows.specs.RowMeaning.{row_meaning}
use Rattle.rows.specs.RowFacts.{row_newest, in_drawer, row_version}
use Rattle.rows.proofs.row.answers.RowDrawersDrawers.written.Goals as goal

pub index-requires : goal.index-requires
unfolding row_meaning
index-requires c =
    let s = c.args.self.now in
    let d = c.args.card.0 in
    let newest = row_newest s d c.requires.listed in
    let shallow = s.kept d c.requires.listed in
    omega (arith, in_drawer s d c.requires.listed (c.args.version.0 - 1) (omega (arith, newest, shallow)))

pub returns : goal.returns
unfolding row_meaning
returns c =
    let s = c.args.self.now in
    let d = c.args.card.0 in
    let newest = row_newest s d c.requires.listed in
    row_version s d c.requires.listed c.args.version.0 c.index.result.now c.requires.above (omega (arith, newest)) c.index.ensures
