-- The puts of a commit keep the laws of a shelf.
use Rattle.std.proofs.Common.{◌≡◌, ℕ, zero, suc, pred, ◌+◌, ◌<◌, ◌≤◌, min, Bool, true, false, cond, eqb, ltb, ◌⊎◌, List, [], ◌∷◌, ◌++◌, length, Some, None, Option, unwrap_or, sym, refl, ap, ◌∙◌, subst, inl, inr, arith, length-append}
use Rattle.std.specs.List.{slice_get, AllByRecursion}
use Rattle.std.specs.Option.{option_map}
use Rattle.std.proofs.ByRecursion.{All-push}
use Rattle.std.proofs.lemmas.Bool.{cases_eq, both_ways, cond-true, cond-false, le-ltb, eq-eqb, ne_eqb}
use Rattle.stamps.specs.Counts.{most}
use Rattle.shelf.specs.Meaning.{Version, Meaning, first_version, version_at}
use Rattle.shelf.specs.Sound.{Narrow, Sound}
use Rattle.shelf.specs.Putting.{added}
use Rattle.isolation.specs.Account.{Reading, Draft, drafted}
use Rattle.isolation.specs.Vectors.{greatest}
use Rattle.transactions.specs.State.{Open}
use Rattle.transactions.specs.Choosing.{stamps_of}
use Rattle.transactions.specs.Committing.{crowded, new_count, new_version, put_cards}
use Rattle.transactions.proofs.Places.{none_some, some_same, nth_stays}
use Rattle.transactions.proofs.Putting.{puts_cards, puts_width, put_room}

all_at : (P : Version → Type 0) (vs : List Version) (k : ℕ) (v : Version) → AllByRecursion P vs → slice_get vs k ≡ Some v → P v
all_at P [] k v a e = absurd (none_some e)
all_at P (u ∷ vs) zero v a e = subst P (some_same e) a.0
all_at P (u ∷ vs) (suc k) v a e = all_at P vs k v a.1 e

-- no count on a shelf is above the largest
count_small : (m : Meaning) → Sound m → (x k y : ℕ) → stamps_of m x k y ≤ most
count_small m s x k y = go (version_at m x k) refl
  where
    go : (o : Option Version) → version_at m x k ≡ o → unwrap_or (option_map (λ (v : Version). v.stamp y) o) 0 ≤ most
    go None e = omega arith
    go (Some v) e = (all_at (Narrow m.width) (m.line x) k v (s.stamps x) e y).0

greatest_small : (m : Meaning) → Sound m → (rs : List Reading) (y : ℕ) → greatest (stamps_of m) rs y ≤ most
greatest_small m s [] y = omega arith
greatest_small m s (r ∷ rs) y = omega (arith, count_small m s r.card r.version y, greatest_small m s rs y)

pub new_count_small : (m : Meaning) → Sound m → (rs : List Reading) (ds : List Draft) (y : ℕ) → new_count m rs ds y ≤ most
new_count_small m s rs ds y = go (drafted ds y)
  where
    go : (b : Bool) → cond b (min (suc (greatest (stamps_of m) rs y)) most) (greatest (stamps_of m) rs y) ≤ most
    go true = let h : min (suc (greatest (stamps_of m) rs y)) most ≤ most = omega arith in h
    go false = greatest_small m s rs y

pub new_narrow : (m : Meaning) → Sound m → (o : Open) (x : ℕ) → Narrow m.width (new_version m o x)
new_narrow m s o x i = (small (ltb i m.width), λ le. cond-false (ltb i m.width) _ 0 (le-ltb i m.width le))
  where
    small : (b : Bool) → cond b (new_count m o.reads o.drafts i) 0 ≤ most
    small true = new_count_small m s o.reads o.drafts i
    small false = let h : ◌≤◌ 0 most = omega arith in h

module _ (m : Meaning) (s : Sound m) (c : ℕ) (v : Version) (lc : c < m.cards) (f : 0 < m.free c) (w : Narrow m.width v) where
  sound_first : (d : ℕ) → d < m.cards → (b : Bool) → slice_get (cond b (m.line d ++ (v ∷ [])) (m.line d)) 0 ≡ Some first_version
  sound_first d ld true = nth_stays (m.line d) (v ∷ []) 0 first_version (s.first d ld)
  sound_first d ld false = s.first d ld

  sound_stamps : (d : ℕ) (b : Bool) → AllByRecursion (Narrow m.width) (cond b (m.line d ++ (v ∷ [])) (m.line d))
  sound_stamps d true = All-push (Narrow m.width) (m.line d) v (s.stamps d) w
  sound_stamps d false = s.stamps d

  free_less : (d : ℕ) (b : Bool) → cond b (pred (m.free d)) (m.free d) ≤ m.free d
  free_less d true = let h : pred (m.free d) ≤ m.free d = omega arith in h
  free_less d false = let h : m.free d ≤ m.free d = omega arith in h

  sound_roomy : (d : ℕ) → d < m.cards → (d ≡ c) ⊎ (d ≡ c → ⊥) → length ((added m c v).line d) + (added m c v).free d ≤ 65536
  sound_roomy d ld (inl e) =
      let p : length ((added m c v).line d) ≡ length (m.line d) + 1
      = ap length (cond-true (eqb d c) (m.line d ++ (v ∷ [])) (m.line d) (eq-eqb d c e)) ∙ length-append (m.line d) (v ∷ []) in
      let q : (added m c v).free d ≡ pred (m.free d)
      = cond-true (m.shares c d) (pred (m.free d)) (m.free d) (subst (λ z. m.shares c z ≡ true) (sym e) (s.shares_itself c lc)) in
      let g : 0 < m.free d = subst (λ z. 0 < m.free z) (sym e) f in
      omega (arith, s.roomy d ld)
  sound_roomy d ld (inr ne) =
      let p : length ((added m c v).line d) ≡ length (m.line d)
      = ap length (cond-false (eqb d c) (m.line d ++ (v ∷ [])) (m.line d) (ne_eqb d c ne)) in
      omega (arith, s.roomy d ld, free_less d (m.shares c d))

  -- cards in one drawer both share c's, or neither does
  shares_alike : (a b : ℕ) → m.shares a b ≡ true → m.shares c a ≡ m.shares c b
  shares_alike a b e = go (m.shares c a) (m.shares c b) refl refl
    where
      go : (p q : Bool) → m.shares c a ≡ p → m.shares c b ≡ q → p ≡ q
      go true true x y = refl
      go true false x y = absurd (both_ways (m.shares c b) y (s.shares_on c a b x e))
      go false true x y = absurd (both_ways (m.shares c a) x (s.shares_on c b a y (s.shares_back a b e)))
      go false false x y = refl

  sound_free : (d : ℕ) → m.cards ≤ d → (b : Bool) → cond b (pred (m.free d)) (m.free d) ≡ 0
  sound_free d le true = ap pred (s.no_free d le)
  sound_free d le false = s.no_free d le

  pub sound_added : Sound (added m c v)
  sound_added = record {
    few = s.few;
    narrow = s.narrow;
    first = λ d ld. sound_first d ld (eqb d c);
    roomy = λ d ld. sound_roomy d ld (cases_eq d c);
    stamps = λ d. sound_stamps d (eqb d c);
    shares_itself = s.shares_itself;
    shares_back = s.shares_back;
    shares_on = s.shares_on;
    shares_listed = s.shares_listed;
    drawer = λ a b e.
        ap (λ (z : Bool). cond z (pred (m.free a)) (m.free a)) (shares_alike a b e)
        ∙ ap (λ (n : ℕ). cond (m.shares c b) (pred n) n) (s.drawer a b e);
    no_line = λ d le. cond-false (eqb d c) (m.line d ++ (v ∷ [])) (m.line d) (ne_eqb d c (omega arith)) ∙ s.no_line d le;
    no_free = λ d le. sound_free d le (m.shares c d);
  }

pub sound_puts : (m : Meaning) → Sound m → (o : Open) → crowded m o.drafts ≡ false → (n : ℕ) → n ≤ m.cards → Sound (put_cards m o n)
sound_puts m s o e zero le = s
sound_puts m s o e (suc n) le = go (drafted o.drafts n) refl (sound_puts m s o e n (omega arith))
  where
    go : (b : Bool) → drafted o.drafts n ≡ b → Sound (put_cards m o n) → Sound (cond b (added (put_cards m o n) n (new_version m o n)) (put_cards m o n))
    go true d p =
        sound_added (put_cards m o n) p n (new_version m o n) (subst (λ z. n < z) (sym (puts_cards m o n)) le)
        (put_room m s o n le e d) (subst (λ z. Narrow z (new_version m o n)) (sym (puts_width m o n)) (new_narrow m s o n))
    go false d p = p
