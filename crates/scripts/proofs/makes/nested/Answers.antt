use Rattle.std.proofs.Common.{◌≡◌, ◌&&◌, ◌∙◌, sym}
use Rattle.std.proofs.lemmas.Bool.{and_from, and_parts, cond-true}
use Rattle.drawers.specs.Fresh.{fresh, each_own, size_fits}
use Rattle.rows.specs.RowMeaning.{row_meaning}
use Rattle.splits.specs.Split.{parts, join}
use Rattle.scripts.specs.declared.makes.Made.TheVariants.{Split}
use Rattle.scripts.specs.Makes.{row_and_pool}
use Rattle.scripts.specs.Shelves.{shelf_meaning}
use Rattle.scripts.proofs.makes.nested.Goals as goal

pub returns : goal.returns
returns c =
    let l = size_fits 4095 c.args.left in
    let m = size_fits 65535 c.args.middle in
    let r = size_fits 4095 c.args.right in
    let one = and_parts l (m && r) c.requires in
    let two = and_parts m r one.1 in
    let left : shelf_meaning (Split c.in_ok-left.left) ≡ row_and_pool c.args.left c.args.middle =
    c.in_ok-left.ensures ∙ cond-true (l && m) _ _ (and_from l m one.0 two.0) in
    let right : row_meaning c.in_ok-right.field-0.shelf.drawers ≡ fresh c.args.right each_own =
    c.in_ok-right.ensures.made ∙ cond-true r _ _ two.1 in
    (λ z. join (parts (shelf_meaning (Split (c.new.ensures.same_left z))) (row_meaning (c.new.ensures.same_right z).drawers)))
    ∙ (λ z. join (parts (left z) (right z)))
    ∙ sym (cond-true (l && (m && r)) _ _ c.requires)
