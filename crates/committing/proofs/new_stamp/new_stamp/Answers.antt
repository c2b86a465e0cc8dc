use Rattle.std.proofs.Common.{map, ap, ◌∙◌, arith}
use mathlib.Core.Path.{fun_ext}
use Rattle.stamps.specs.Counts.{room}
use Rattle.isolation.specs.Vectors.{greatest}
use Rattle.transactions.specs.Choosing.{stamps_of}
use Rattle.entries.specs.Contents.{reading, drafting}
use Rattle.committing.specs.Stamping.{bump_all}
use Rattle.committing.proofs.Stamps.{bumped_once}
use Rattle.committing.proofs.new_stamp.new_stamp.Goals as goal

pub returns : goal.returns
returns g c =
    let m = g.S.Shelf.meaning c.args.shelf.now in
    let ds = map drafting c.args.drafts.now in
    let f = greatest (stamps_of m) (map reading c.args.reads.now) in
    c.bump_drafts.ensures ∙ ap (λ q. bump_all q ds) c.joined_stamp-stamp.ensures ∙ fun_ext (λ y. bumped_once room ds f y (omega arith) c.requires)
