-- What generic code may cite of a lawful shelf's versions, before and after one is added. Assumes nothing.
use Rattle.std.proofs.Common.{◌≡◌, ℕ, zero, suc, pred, ◌+◌, ◌<◌, ◌≤◌, eqb, ◌≢◌, List, [], ◌∷◌, ◌++◌, length, get_or, Some, None, sym, refl, ap, ◌∙◌, subst, ⊎_elim, arith}
use Rattle.std.specs.List.{slice_get, AllByRecursion}
use Rattle.std.proofs.lemmas.List.{length_push}
use Rattle.std.proofs.lemmas.Option.{slice_get-get_or, slice_get_past}
use Rattle.std.proofs.lemmas.Bool.{cases_eq, cond-true, cond-false, eq-eqb, ne_eqb}
use Rattle.shelf.specs.Meaning.{Version, Meaning, first_version, version_at, newest}
use Rattle.shelf.specs.Sound.{Narrow, Sound}
use Rattle.shelf.specs.Putting.{added}

one_more : (l : List Version) → slice_get l 0 ≡ Some first_version → length l ≡ suc (pred (length l))
one_more [] e = let z : ◌≡◌ {A = ℕ} 0 1 = cc in absurd (omega arith)
one_more (x ∷ l) e = refl

narrow_nth : (w : ℕ) (l : List Version) (k : ℕ) (v : Version) → AllByRecursion (Narrow w) l → slice_get l k ≡ Some v → Narrow w v
narrow_nth w [] k v all e = let z : ◌≡◌ {A = ℕ} 0 1 = cc in absurd (omega arith)
narrow_nth w (x ∷ l) zero v all e = let same : x ≡ v = cc in subst (Narrow w) same all.0
narrow_nth w (x ∷ l) (suc k) v all e = narrow_nth w l k v all.1 e

pub nth_more : (xs ys : List Version) (k : ℕ) (x : Version) → slice_get xs k ≡ Some x → slice_get (xs ++ ys) k ≡ Some x
nth_more [] ys k x e = let z : ◌≡◌ {A = ℕ} 0 1 = cc in absurd (omega arith)
nth_more (y ∷ xs) ys zero x e = e
nth_more (y ∷ xs) ys (suc k) x e = nth_more xs ys k x e

pub nth_last : (xs : List Version) (y : Version) → slice_get (xs ++ y ∷ []) (length xs) ≡ Some y
nth_last [] y = refl
nth_last (x ∷ xs) y = nth_last xs y

module _ (m : Meaning) (sound : Sound m) (c : ℕ) (listed : c < m.cards) where
  -- a card has one version more than its newest one's number
  pub versions_newest : length (m.line c) ≡ suc (newest m c)
  versions_newest = one_more (m.line c) (sound.first c listed)

  -- every version up to the newest is there, and none above
  pub version_there : (k : ℕ) → k ≤ newest m c → version_at m c k ≡ Some (get_or (m.line c) k first_version)
  version_there k h = slice_get-get_or (m.line c) k first_version (omega (arith, versions_newest))

  pub version_none : (k : ℕ) → newest m c < k → version_at m c k ≡ None
  version_none k h = slice_get_past (m.line c) k (omega (arith, versions_newest))

  -- a version's number and the free places are together at most 65,535
  pub newest_small : newest m c + m.free c ≤ 65535
  newest_small = omega (arith, versions_newest, sound.roomy c listed)

-- a version that is there is at most the newest
pub version_at_most : (m : Meaning) (c k : ℕ) (v : Version) → version_at m c k ≡ Some v → k ≤ newest m c
version_at_most m c k v e = go (m.line c) k e
  where
    go : (l : List Version) (k : ℕ) → slice_get l k ≡ Some v → k ≤ pred (length l)
    go [] k e = let z : ◌≡◌ {A = ℕ} 0 1 = cc in absurd (omega arith)
    go (x ∷ l) zero e = omega arith
    go (x ∷ []) (suc k) e = let z : ◌≡◌ {A = ℕ} 0 1 = cc in absurd (omega arith)
    go (x ∷ (y ∷ l)) (suc k) e = omega (arith, go (y ∷ l) k e)

-- its counts are small, and 0 past the width
pub version_narrow : (m : Meaning) → Sound m → (c k : ℕ) (v : Version) → version_at m c k ≡ Some v → Narrow m.width v
version_narrow m sound c k v e = narrow_nth m.width (m.line c) k v (sound.stamps c) e

module _ (m : Meaning) (c : ℕ) (v : Version) where
  line_there : (added m c v).line c ≡ m.line c ++ v ∷ []
  line_there = cond-true (eqb c c) _ _ (eq-eqb c c refl)

  pub line_elsewhere : (d : ℕ) → d ≢ c → (added m c v).line d ≡ m.line d
  line_elsewhere d ne = cond-false (eqb d c) _ _ (ne_eqb d c ne)

  -- what was there stays
  pub version_stays : (d k : ℕ) (x : Version) → version_at m d k ≡ Some x → version_at (added m c v) d k ≡ Some x
  version_stays d k x e =
      ⊎_elim
      (λ (same : d ≡ c). ap (λ l. slice_get l k) (cond-true (eqb d c) _ _ (eq-eqb d c same)) ∙ nth_more (m.line d) (v ∷ []) k x e)
      (λ (ne : d ≢ c). ap (λ l. slice_get l k) (line_elsewhere d ne) ∙ e)
      (cases_eq d c)

  pub version_elsewhere : (d k : ℕ) → d ≢ c → version_at (added m c v) d k ≡ version_at m d k
  version_elsewhere d k ne = ap (λ l. slice_get l k) (line_elsewhere d ne)

  pub newest_elsewhere : (d : ℕ) → d ≢ c → newest (added m c v) d ≡ newest m d
  newest_elsewhere d ne = ap (λ l. pred (length l)) (line_elsewhere d ne)

  module _ (sound : Sound m) (listed : c < m.cards) where
    -- the card's newest number rises by one, and is the new version's
    pub newest_rises : newest (added m c v) c ≡ suc (newest m c)
    newest_rises =
        ap (λ l. pred (length l)) line_there
        ∙ ap pred (length_push (m.line c) v ∙ ap (λ n. n + 1) (versions_newest m sound c listed))
        ∙ omega arith

    pub version_new : version_at (added m c v) c (suc (newest m c)) ≡ Some v
    version_new =
        ap (λ l. slice_get l (suc (newest m c))) line_there
        ∙ ap (slice_get (m.line c ++ v ∷ [])) (sym (versions_newest m sound c listed))
        ∙ nth_last (m.line c) v
