-- The versions that lie in places. Assumes nothing.
--     version_of w t          the version that t is, its counts 0 from the width w on
--     version_kept w o        the version that is written as o, version 0 where nothing is written
--     version_in ps w p       the version at place p; version 0 where there is no such place
--     Wrote ps qs p t         qs is ps with t at place p, if there is such a place
use Rattle.std.specs.Prelude.{◌≡◌, ℕ, Some, None, Option, map, vec_items, vec_len, slice_index_or, slice_set}
use Rattle.stamps.specs.Counts.{cut}
use Rattle.stamps.specs.Entries.{entries}
use Rattle.drawers.specs.declared.places.Places.{Places}
use Rattle.drawers.specs.declared.places.Written.{Written}
use Rattle.shelf.specs.Meaning.{Version, first_version}

abbrev pub version_of : ℕ → Written → Version
version_of w t = record { value = t.value; writer = t.writer.0; stamp = cut w (entries t.stamp) }

abbrev pub version_kept : ℕ → Option Written → Version
version_kept w None = first_version
version_kept w (Some t) = version_of w t

abbrev pub version_in : Places → ℕ → ℕ → Version
version_in ps w p = slice_index_or (map (version_of w) (vec_items ps.written)) p first_version

pub record Wrote (ps qs : Places) (p : ℕ) (t : Written) : Type 0 where
  pub written : vec_items qs.written ≡ slice_set (vec_items ps.written) p t
  pub as_long : vec_len qs.written ≡ vec_len ps.written
