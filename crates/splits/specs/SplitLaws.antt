-- A split of lawful shelves is lawful. Assumes nothing.
use Rattle.std.specs.Prelude.{◌≡◌, ℕ, ◌+◌, ◌<◌, ◌≤◌, Bool, true, false, cond, ◌&&◌, List, [], map, length, Some, None, Option, nat_lt, refl}
use Rattle.std.proofs.Common.{ap, ◌∙◌, arith}
use Rattle.std.proofs.Math.Path.{fun_ext}
use Rattle.std.specs.List.{slice_get, AllByRecursion}
use Rattle.std.specs.Option.{option_map}
use Rattle.std.proofs.ByRecursion.{All-map, All-weaker}
use Rattle.std.proofs.lemmas.List.{length-map}
use Rattle.std.proofs.lemmas.Option.{slice_get-map}
use Rattle.std.proofs.lemmas.Bool.{false≢true}
use Rattle.std.proofs.lemmas.Bool.Decides.{nat_tests}
use Rattle.stamps.specs.declared.numbers.CardNo.{CardNo}
use Rattle.splits.specs.declared.split.Side.{Side}
use Rattle.splits.specs.declared.split.Side.TheVariants.{Left, Right}
use Rattle.shelf.specs.Meaning.{Version, Meaning, first_version}
use Rattle.shelf.specs.Sound.{Narrow, Sound}
use Rattle.splits.specs.Split.{Parts, parts, same_side, side_of, located, narrowed, join}
use Rattle.splits.specs.Splits.{Found, here, nowhere, find, shown, width_of}

-- the first version and every narrow one after the cut
first_narrowed : (w : ℕ) → narrowed w first_version ≡ first_version
first_narrowed w =
    let zeros : (i : ℕ) → cond (nat_lt i w) 0 0 ≡ 0 = λ i. grind (arith, nat_tests) in
    λ z. record { value = first_version.value; writer = 0; stamp = fun_ext zeros z }

narrow_cut : (w n : ℕ) (v : Version) → Narrow n v → Narrow w (narrowed w v)
narrow_cut w n v narrow i =
    let small = (narrow i).0 in
    (grind (arith, nat_tests, small), λ past. grind (arith, nat_tests))

module _ (p : Parts) (laws : (s : Side) → Sound (p s)) where
  -- sharing, from side and number to side and number
  abbrev kin : Side → ℕ → Side → ℕ → Bool
  kin s d t e = same_side s t && (p s).shares d e

  kin_itself : (s : Side) (d : ℕ) → d < (p s).cards → kin s d s d ≡ true
  kin_itself Left d h = (laws Left).shares_itself d h
  kin_itself Right d h = (laws Right).shares_itself d h

  kin_back : (s : Side) (d : ℕ) (t : Side) (e : ℕ) → kin s d t e ≡ true → kin t e s d ≡ true
  kin_back Left d Left e h = (laws Left).shares_back d e h
  kin_back Left d Right e h = absurd (false≢true h)
  kin_back Right d Left e h = absurd (false≢true h)
  kin_back Right d Right e h = (laws Right).shares_back d e h

  kin_on : (s : Side) (d : ℕ) (t : Side) (e : ℕ) (u : Side) (f : ℕ) → kin s d t e ≡ true → kin t e u f ≡ true → kin s d u f ≡ true
  kin_on Left d Left e Left f h k = (laws Left).shares_on d e f h k
  kin_on Left d Left e Right f h k = absurd (false≢true k)
  kin_on Left d Right e u f h k = absurd (false≢true h)
  kin_on Right d Left e u f h k = absurd (false≢true h)
  kin_on Right d Right e Left f h k = absurd (false≢true k)
  kin_on Right d Right e Right f h k = (laws Right).shares_on d e f h k

  kin_free : (s : Side) (d : ℕ) (t : Side) (e : ℕ) → kin s d t e ≡ true → (p s).free d ≡ (p t).free e
  kin_free Left d Left e h = (laws Left).drawer d e h
  kin_free Left d Right e h = absurd (false≢true h)
  kin_free Right d Left e h = absurd (false≢true h)
  kin_free Right d Right e h = (laws Right).drawer d e h

  w : ℕ
  w = width_of p

  abbrev shared : Option (Side × CardNo) → Option (Side × CardNo) → Bool
  shared a b = located a false (λ s d. located b false (λ t e. kin s d t e))

  shared_back : (a b : Option (Side × CardNo)) → shared a b ≡ true → shared b a ≡ true
  shared_back None b h = absurd (false≢true h)
  shared_back (Some (s, d)) None h = absurd (false≢true h)
  shared_back (Some (s, d)) (Some (t, e)) h = kin_back s d.0 t e.0 h

  shared_on : (a b c : Option (Side × CardNo)) → shared a b ≡ true → shared b c ≡ true → shared a c ≡ true
  shared_on None b c h k = absurd (false≢true h)
  shared_on (Some (s, d)) None c h k = absurd (false≢true h)
  shared_on (Some (s, d)) (Some (t, e)) None h k = absurd (false≢true k)
  shared_on (Some (s, d)) (Some (t, e)) (Some (u, f)) h k = kin_on s d.0 t e.0 u f.0 h k

  shared_free : (a b : Option (Side × CardNo)) → shared a b ≡ true → located a 0 (λ s d. (p s).free d) ≡ located b 0 (λ s d. (p s).free d)
  shared_free None b h = absurd (false≢true h)
  shared_free (Some (s, d)) None h = absurd (false≢true h)
  shared_free (Some (s, d)) (Some (t, e)) h = kin_free s d.0 t e.0 h

  abbrev line_at : Option (Side × CardNo) → List Version
  line_at o = located o [] (λ s d. map (narrowed (width_of p)) ((p s).line d))

  module _ (c : ℕ) where
    first_at : (o : Option (Side × CardNo)) → Found p c o → c < shown p → slice_get (line_at o) 0 ≡ Some first_version
    first_at _ (here s d at) h =
        slice_get-map (narrowed (width_of p)) ((p s).line d.0) 0
        ∙ ap (option_map (narrowed (width_of p))) ((laws s).first d.0 at.listed)
        ∙ ap Some (first_narrowed (width_of p))
    first_at _ (nowhere past) h = absurd (omega arith)

    roomy_at : (o : Option (Side × CardNo)) → Found p c o → c < shown p → length (line_at o) + located o 0 (λ s d. (p s).free d) ≤ 65536
    roomy_at _ (here s d at) h = omega (arith, length-map ((p s).line d.0) (narrowed (width_of p)), (laws s).roomy d.0 at.listed)
    roomy_at _ (nowhere past) h = absurd (omega arith)

    stamps_at : (o : Option (Side × CardNo)) → AllByRecursion (Narrow (width_of p)) (line_at o)
    stamps_at None = tt
    stamps_at (Some (s, d)) =
        All-map (Narrow (width_of p)) (narrowed (width_of p)) ((p s).line d.0)
        (All-weaker (Narrow (p s).width) (λ v. Narrow (width_of p) (narrowed (width_of p) v)) (narrow_cut (width_of p) (p s).width) ((p s).line d.0) ((laws s).stamps d.0))

    itself_at : (o : Option (Side × CardNo)) → Found p c o → c < shown p → shared o o ≡ true
    itself_at _ (here s d at) h = kin_itself s d.0 at.listed
    itself_at _ (nowhere past) h = absurd (omega arith)

    listed_at : (o b : Option (Side × CardNo)) → Found p c o → shared o b ≡ true → c < shown p
    listed_at _ b (here s d at) h = at.inside
    listed_at _ b (nowhere past) h = absurd (false≢true h)

    none_at : {A : Type 0} (n : A) (f : Side → ℕ → A) (o : Option (Side × CardNo)) → Found p c o → shown p ≤ c → located o n f ≡ n
    none_at n f _ (here s d at) past = absurd (omega (arith, at.inside))
    none_at n f _ (nowhere _) past = refl

  pub split_sound : Sound (join p)
  unfolding join
  split_sound =
      record {
        few = omega arith;
        narrow = omega (arith, (laws Left).narrow);
        first = λ c h. first_at c (side_of p c) (find p c) h;
        roomy = λ c h. roomy_at c (side_of p c) (find p c) h;
        stamps = λ c. stamps_at c (side_of p c);
        shares_itself = λ c h. itself_at c (side_of p c) (find p c) h;
        shares_back = λ a b h. shared_back (side_of p a) (side_of p b) h;
        shares_on = λ a b c h k. shared_on (side_of p a) (side_of p b) (side_of p c) h k;
        shares_listed = λ a b h. listed_at a (side_of p a) (side_of p b) (find p a) h;
        drawer = λ a b h. shared_free (side_of p a) (side_of p b) h;
        no_line = λ c past. none_at c [] (λ s d. map (narrowed (width_of p)) ((p s).line d)) (side_of p c) (find p c) past;
        no_free = λ c past. none_at c 0 (λ s d. (p s).free d) (side_of p c) (find p c) past;
      }

pub both_sound : (l r : Meaning) → Sound l → Sound r → (s : Side) → Sound (parts l r s)
both_sound l r left right Left = left
both_sound l r left right Right = right
