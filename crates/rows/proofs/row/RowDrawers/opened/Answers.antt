use Rattle.std.proofs.Common.{◌≡◌, ℕ, get_or, vec_items, ap, ◌∙◌}
use Rattle.stamps.proofs.Zeros.{zeros}
use Rattle.drawers.specs.Places.{version_in}
use Rattle.rows.specs.Rows.{row_of}
use Rattle.rows.specs.RowMeaning.{row_meaning}
use Rattle.rows.specs.RowsLemmas.{row_empty, row_fresh}
use Rattle.rows.proofs.row.RowDrawers.opened.Goals as goal

pub returns : goal.returns
unfolding row_meaning
returns c =
    let size = c.args.size in
    let used = λ (x : ℕ). get_or (vec_items c.fill.new.self) x 0 in
    let at = version_in c.args.memory.places size.width in
    let clear : (x : ℕ) → used x ≡ 0 = λ x. ap (λ l. get_or l x 0) (c.fill.ensures.items (λ y e. e)) ∙ zeros _ x in
    record {
      free = row_fresh size.cards size.width size.places used at clear;
      none = λ few narrow. (λ z. row_of (few z) (narrow z) size.places used at) ∙ row_empty size.places used at;
    }
