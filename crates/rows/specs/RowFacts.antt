-- What the fields of a row's drawers say of their meaning. Assumes nothing.
use Rattle.std.specs.Prelude.{◌≡◌, ℕ, zero, suc, pred, ◌+◌, ◌-◌, ◌*◌, ◌<◌, ◌≤◌, length, Some, None, vec_items, vec_len, nat_lt, slice_index, slice_index_or, slice_set, refl, true, ◌&&◌, nat_le}
use Rattle.std.proofs.Math.Path.{ap}
use Rattle.std.proofs.Common.{◌∙◌, arith}
use Rattle.std.proofs.Math.Arith.{digits_lt}
use Rattle.std.specs.List.{slice_get}
use Rattle.std.proofs.lemmas.Option.{slice_get_past}
use Rattle.std.proofs.lemmas.List.{get_or_read_under, get_or-set_same, get_or-set_other}
use Rattle.std.proofs.lemmas.Bool.{cond-true, lt-ltb, and_parts}
use Rattle.drawers.specs.declared.places.Written.{Written}
use Rattle.rows.specs.declared.row.RowMemory.{RowMemory}
use Rattle.rows.specs.declared.row.RowDrawers.{RowDrawers}
use Rattle.shelf.specs.declared.size.Size.{Size}
use Rattle.shelf.specs.Meaning.{Version, first_version, version_at, newest}
use Rattle.shelf.specs.Sound.{Sound}
use Rattle.drawers.specs.Fresh.{size_fits}
use Rattle.drawers.specs.Places.{version_in, version_of, Wrote}
use Rattle.shelf.specs.Putting.{added}
use Rattle.rows.specs.Rows.{row_of}
use Rattle.rows.specs.RowMeaning.{row_meaning, row_fits}
use Rattle.rows.specs.RowsLemmas.{row_length, row_first, row_nth, row_none, row_sound, row_added}
use Rattle.drawers.proofs.Spots.{version_read, narrow_in, wrote_other, wrote_here}

abbrev used_by : RowDrawers → ℕ → ℕ
used_by s c = slice_index (vec_items s.used) c

abbrev kept_at : RowDrawers → ℕ → Version
kept_at s = version_in s.places s.size.width

pub row_cards : (s : RowDrawers) → (row_meaning s).cards ≡ s.size.cards
unfolding row_meaning
row_cards s = refl

pub row_width : (s : RowDrawers) → (row_meaning s).width ≡ s.size.width
unfolding row_meaning
row_width s = refl

-- what fits is within the limits
pub fits_within : (m : RowMemory) (size : Size) → row_fits m size ≡ true → size_fits 4095 size ≡ true
fits_within m size fits =
    (and_parts (size_fits 4095 size) (nat_le size.cards (vec_len m.used) && nat_le (size.cards * size.places) (vec_len m.places.written)) fits).0

pub sound : (s : RowDrawers) → Sound (row_meaning s)
unfolding row_meaning
sound s = row_sound s.size.cards s.size.width s.size.places (used_by s) (kept_at s) s.few s.narrow s.shallow s.kept (narrow_in s.places s.size.width)

module _ (s : RowDrawers) (c : ℕ) (listed : c < s.size.cards) where
  -- a place of the card's drawer is a place of the memory
  pub in_drawer : (k : ℕ) → k < s.size.places → c * s.size.places + k < vec_len s.places.written
  in_drawer k h =
      let inside = digits_lt {q = c} {m = s.size.cards} {r = k} {c = s.size.places} listed h in
      omega (arith, inside, s.written)

  pub row_free : (row_meaning s).free c ≡ s.size.places - used_by s c
  unfolding row_meaning
  row_free = cond-true (nat_lt c s.size.cards) (s.size.places - used_by s c) 0 (lt-ltb c s.size.cards listed)

  pub row_versions : length ((row_meaning s).line c) ≡ suc (used_by s c)
  unfolding row_meaning
  row_versions = row_length s.size.cards s.size.width s.size.places (used_by s) (kept_at s) c listed

  pub row_version_0 : version_at (row_meaning s) c 0 ≡ Some first_version
  unfolding row_meaning
  row_version_0 = row_first s.size.cards s.size.width s.size.places (used_by s) (kept_at s) c listed

  pub row_version_none : (k : ℕ) → used_by s c < k → version_at (row_meaning s) c k ≡ None
  unfolding row_meaning
  row_version_none k past = slice_get_past ((row_meaning s).line c) k (omega (arith, row_versions))

  pub row_newest : newest (row_meaning s) c ≡ used_by s c
  unfolding row_meaning
  row_newest = ap pred row_versions

  -- what was read of a version
  pub row_version : (k : ℕ) (t : Written) → 0 < k → k ≤ used_by s c → t ≡ slice_index_or (vec_items s.places.written) (c * s.size.places + (k - 1)) t →
      version_at (row_meaning s) c k ≡ Some (version_of s.size.width t)
  unfolding row_meaning
  row_version zero t some in' read = absurd (omega arith)
  row_version (suc k) t some in' read =
      let shallow = s.kept c listed in
      row_nth s.size.cards s.size.width s.size.places (used_by s) (kept_at s) c k listed (omega arith)
      ∙ ap (λ n. Some (kept_at s (c * s.size.places + n))) (omega arith)
      ∙ ap Some (version_read s.places s.size.width (c * s.size.places + (suc k - 1)) t (in_drawer (suc k - 1) (omega arith)) read)

  -- the count that was read
  pub used_read : (n : ℕ) → n ≡ slice_index_or (vec_items s.used) c n → n ≡ used_by s c
  used_read n read = get_or_read_under (vec_items s.used) c (vec_len s.used) n 0 read (omega (arith, s.listed)) s.used.ok.0

-- a card that the shelf lacks has no version
pub row_absent : (s : RowDrawers) (c k : ℕ) → s.size.cards ≤ c → version_at (row_meaning s) c k ≡ None
unfolding row_meaning
row_absent s c k past = ap (λ l. slice_get l k) (row_none s.size.cards s.size.width s.size.places (used_by s) (kept_at s) c past)

-- the shelf with one version more
module _ (s s' : RowDrawers) (c : ℕ) (t : Written) (listed : c < s.size.cards) (free : used_by s c < s.size.places)
    (size : s'.size ≡ s.size)
    (used : vec_items s'.used ≡ slice_set (vec_items s.used) c (suc (used_by s c)))
    (wrote : Wrote s.places s'.places (c * s.size.places + used_by s c) t) where
  pub row_with : row_meaning s' ≡ added (row_meaning s) c (version_of s.size.width t)
  unfolding row_meaning
  row_with =
      let u = used_by s' in
      let p = c * s.size.places + used_by s c in
      let at = version_in s'.places s.size.width in
      (λ z. row_of (size z).cards (size z).width (size z).places u (version_in s'.places (size z).width))
      ∙ row_added s.size.cards s.size.width s.size.places (used_by s) u (kept_at s) at c (version_of s.size.width t) listed free s.kept
      (ap (λ l. slice_index l c) used ∙ get_or-set_same (vec_items s.used) c (suc (used_by s c)) 0 (omega (arith, s.listed, s.used.ok.0)))
      (λ d ne. ap (λ l. slice_index l d) used ∙ get_or-set_other (vec_items s.used) c d (suc (used_by s c)) 0 ne)
      (wrote_here s.places s'.places s.size.width p t wrote (in_drawer s c listed (used_by s c) free))
      (λ q ne. wrote_other s.places s'.places s.size.width p t wrote q ne)
