use Rattle.std.proofs.Common.{map, unwrap_or, sym, ap, ◌∙◌, arith}
use Rattle.entries.specs.Contents.{reading}
use Rattle.tables.specs.Tables.{nobody}
use Rattle.tables.proofs.Standing.{taken_low, kept_open, at_is, reads_end}
use Rattle.tables.proofs.table.open_at.OpenAt.reads.Goals as goal

pub first-requires : goal.first-requires
first-requires c =
    let t = c.args.self.now.table.now in
    let p = c.args.self.now.place in
    let there = c.in-Some.ensures in
    let low = taken_low t p there.0 in
    let k = c.in-Some.taken in
    omega (arith, reads_end t p k.reads low (kept_open t p k low there.1).0)

pub returns : goal.returns
returns c =
    let t = c.args.self.now.table.now in
    let p = c.args.self.now.place in
    let there = c.in-Some.ensures in
    let k = c.in-Some.taken in
    let is = at_is t p k (taken_low t p there.0) there.1 in
    ap (map reading) c.first.ensures ∙ sym (ap (λ o. (unwrap_or o nobody).reads) is)
