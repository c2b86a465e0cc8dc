-- What lies at a place, and what a write leaves. Assumes nothing.
use Rattle.std.proofs.Common.{◌≡◌, ℕ, zero, suc, ◌<◌, ◌≢◌, List, [], ◌∷◌, map, set, get_or, vec_items, vec_len, Option, sym, refl, ap, ◌∙◌, arith}
use Rattle.std.specs.List.{slice_get}
use Rattle.std.proofs.lemmas.List.{get_or-map, map-set, get_or-set_same, get_or-set_other, length-map}
use Rattle.std.proofs.lemmas.Bool.Decides.{nat_tests}
use Rattle.drawers.specs.declared.places.Places.{Places}
use Rattle.drawers.specs.declared.places.Written.{Written}
use Rattle.drawers.specs.Places.{version_in, version_kept, version_of, Wrote}
use Rattle.shelf.specs.Meaning.{first_version}
use Rattle.shelf.specs.Sound.{Narrow}

-- what was read at a place
pub version_read : (ps : Places) (w p : ℕ) (t : Written) → p < vec_len ps.written → t ≡ get_or (vec_items ps.written) p t → version_in ps w p ≡ version_of w t
version_read ps w p t there read =
    get_or-map (version_of w) (vec_items ps.written) p t first_version (omega (arith, there, ps.written.ok.0)) ∙ ap (version_of w) (sym read)

-- what is read at any place: version 0 where there is no such place
pub version_got : (ps : Places) (w p : ℕ) (o : Option Written) → o ≡ slice_get (vec_items ps.written) p → version_in ps w p ≡ version_kept w o
version_got ps w p o got = go (vec_items ps.written) p ∙ ap (version_kept w) (sym got)
  where
    go : (l : List Written) (p : ℕ) → get_or (map (version_of w) l) p first_version ≡ version_kept w (slice_get l p)
    go [] p = refl
    go (t ∷ l) zero = refl
    go (t ∷ l) (suc p) = go l p

-- what is written is narrow
pub narrow_of : (w : ℕ) (t : Written) → Narrow w (version_of w t)
narrow_of w t i = let small = t.stamp.small i in (grind (arith, nat_tests, small), λ past. grind (arith, nat_tests))

pub narrow_in : (ps : Places) (w p : ℕ) → Narrow w (version_in ps w p)
narrow_in ps w p = go (vec_items ps.written) p
  where
    go : (l : List Written) (p : ℕ) → Narrow w (get_or (map (version_of w) l) p first_version)
    go [] p i = (omega arith, λ _. refl)
    go (t ∷ l) zero i = narrow_of w t i
    go (t ∷ l) (suc p) i = go l p i

module _ (ps qs : Places) (w p : ℕ) (t : Written) (wrote : Wrote ps qs p t) where
  -- the versions after a write
  versions_after : map (version_of w) (vec_items qs.written) ≡ set (map (version_of w) (vec_items ps.written)) p (version_of w t)
  versions_after = ap (map (version_of w)) wrote.written ∙ map-set (version_of w) (vec_items ps.written) p t

  -- the other places are as they were
  pub wrote_other : (q : ℕ) → q ≢ p → version_in qs w q ≡ version_in ps w q
  wrote_other q apart =
      ap (λ l. get_or l q first_version) versions_after
      ∙ get_or-set_other (map (version_of w) (vec_items ps.written)) p q (version_of w t) first_version apart

  -- the place written holds what was written
  pub wrote_here : p < vec_len ps.written → version_in qs w p ≡ version_of w t
  wrote_here there =
      ap (λ l. get_or l p first_version) versions_after
      ∙ get_or-set_same (map (version_of w) (vec_items ps.written)) p (version_of w t) first_version
      (omega (arith, there, ps.written.ok.0, length-map (vec_items ps.written) (version_of w)))
