use Rattle.std.proofs.Common.{◌≡◌, suc, ◌+◌, ◌*◌, ◌<◌, set, vec_items, sym, ap, ◌∙◌, subst, refl, arith}
use Rattle.std.specs.Prelude.{slice_index}
use Rattle.shelf.specs.Putting.{added}
use Rattle.drawers.specs.Places.{Wrote, version_of}
use Rattle.rows.specs.RowMeaning.{row_meaning}
use Rattle.rows.specs.RowFacts.{row_cards, row_width, row_free, row_with, used_read}
use Rattle.rows.proofs.row.answers.RowDrawersDrawers.add.Goals as goal

pub returns : goal.returns
returns c =
    let s = c.args.self.now in
    let n = c.args.card.0 in
    let listed : n < s.size.cards = omega (arith, row_cards s, c.requires.listed) in
    let told = used_read s n listed c.index-taken.result.now c.index-taken.ensures in
    let next : c.index-taken.result.now + 1 ≡ suc (slice_index (vec_items s.used) n) = omega (arith, told) in
    row_with s _ n c.args.written listed (omega (arith, row_free s n listed, c.requires.free)) refl
    (ap (set (vec_items s.used) n) next)
    (subst (λ k. Wrote s.places c.write.new.self (n * s.size.places + k) c.args.written) told c.write.ensures)
    ∙ ap (λ w. added (row_meaning s) n (version_of w c.args.written)) (sym (row_width s))
