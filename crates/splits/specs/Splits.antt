-- Where a split keeps a card, and what it answers from there. Assumes nothing.
use Rattle.std.specs.Prelude.{◌≡◌, ℕ, pred, ◌+◌, ◌-◌, ◌<◌, ◌≤◌, min, false, cond, ◌&&◌, [], map, length, Some, None, Option, nat_lt}
use Rattle.std.proofs.Math.Path.{refl, sym, ap}
use Rattle.std.proofs.Common.{subst, ◌∙◌, ⊎_elim, arith}
use Rattle.std.specs.List.{slice_get}
use Rattle.std.specs.Option.{option_map}
use Rattle.std.proofs.lemmas.List.{length-map}
use Rattle.std.proofs.lemmas.Option.{slice_get-map}
use Rattle.std.proofs.lemmas.Bool.{cases_lt, cond-true, cond-false, lt-ltb, le-ltb, and_left, and_right}
use Rattle.stamps.specs.declared.numbers.CardNo.{CardNo}
use Rattle.splits.specs.declared.split.Side.{Side}
use Rattle.splits.specs.declared.split.Side.TheVariants.{Left, Right}
use Rattle.shelf.specs.Meaning.{Version, version_at}
use Rattle.shelf.specs.Questions.{versions_of, newest_of, shares_of, free_of}
use Rattle.splits.specs.Split.{Parts, same_side, side_of, located, narrowed, join}

-- where a side's cards begin
abbrev pub begin : Parts → Side → ℕ
begin p Left = 0
begin p Right = (p Left).cards

abbrev pub shown : Parts → ℕ
shown p = min ((p Left).cards + (p Right).cards) 256

abbrev pub width_of : Parts → ℕ
width_of p = min (p Left).width (p Right).width

-- card c of the whole is card d of side s
pub record On (p : Parts) (c : ℕ) (s : Side) (d : ℕ) : Type 0 where
  pub inside : c < shown p
  pub listed : d < (p s).cards
  pub is : c ≡ begin p s + d

pub data Found (p : Parts) (c : ℕ) : Option (Side × CardNo) → Type 0 where
  here : (s : Side) (d : CardNo) → On p c s d.0 → Found p c (Some (s, d))
  nowhere : shown p ≤ c → Found p c None

pub find : (p : Parts) (c : ℕ) → Found p c (side_of p c)
find p c =
    ⊎_elim
    (λ (inside : c < shown p).
    let shows = cond-true (nat_lt c (shown p)) _ None (lt-ltb c (shown p) inside) in
    ⊎_elim
    (λ (low : c < (p Left).cards).
    subst (Found p c) (sym (shows ∙ cond-true (nat_lt c (p Left).cards) _ _ (lt-ltb c (p Left).cards low)))
    (here Left (record { 0 = c }) (record { inside = inside; listed = low; is = omega arith })))
    (λ (high : (p Left).cards ≤ c).
    subst (Found p c) (sym (shows ∙ cond-false (nat_lt c (p Left).cards) _ _ (le-ltb c (p Left).cards high)))
    (here Right (record { 0 = c - (p Left).cards }) (record { inside = inside; listed = omega arith; is = omega arith })))
    (cases_lt c (p Left).cards))
    (λ (past : shown p ≤ c). subst (Found p c) (sym (cond-false (nat_lt c (shown p)) _ _ (le-ltb c (shown p) past))) (nowhere past))
    (cases_lt c (shown p))

pub on : (p : Parts) (c : ℕ) (s : Side) (d : CardNo) → side_of p c ≡ Some (s, d) → On p c s d.0
on p c s d is = go (side_of p c) (find p c) is
  where
    go : (o : Option (Side × CardNo)) → Found p c o → o ≡ Some (s, d) → On p c s d.0
    go _ (here t e at) same =
        let both : ◌≡◌ {A = Side × CardNo} (t, e) (s, d) = cc in
        subst (λ (q : Side × CardNo). On p c q.0 q.1.0) both at
    go _ (nowhere past) same = let z : ◌≡◌ {A = ℕ} 0 1 = cc in absurd (omega arith)

module _ (p : Parts) (c : ℕ) where
  pub versions_split : versions_of (join p) c ≡ located (side_of p c) None (λ s d. versions_of (p s) d)
  unfolding join
  versions_split = go (side_of p c) (find p c)
    where
      go : (o : Option (Side × CardNo)) → Found p c o →
          cond (nat_lt c (shown p)) (Some (length (located o [] (λ s d. map (narrowed (width_of p)) ((p s).line d))))) None
          ≡ located o None (λ s d. versions_of (p s) d)
      go _ (here s d at) =
          cond-true _ _ _ (lt-ltb c (shown p) at.inside) ∙ ap Some (length-map ((p s).line d.0) (narrowed (width_of p)))
          ∙ sym (cond-true _ _ _ (lt-ltb d.0 (p s).cards at.listed))
      go _ (nowhere past) = cond-false _ _ _ (le-ltb c (shown p) past)

  pub newest_split : newest_of (join p) c ≡ located (side_of p c) None (λ s d. newest_of (p s) d)
  unfolding join
  newest_split = go (side_of p c) (find p c)
    where
      go : (o : Option (Side × CardNo)) → Found p c o →
          cond (nat_lt c (shown p)) (Some (record { 0 = pred (length (located o [] (λ s d. map (narrowed (width_of p)) ((p s).line d)))) })) None
          ≡ located o None (λ s d. newest_of (p s) d)
      go _ (here s d at) =
          cond-true _ _ _ (lt-ltb c (shown p) at.inside) ∙ ap (λ n. Some (record { 0 = pred n })) (length-map ((p s).line d.0) (narrowed (width_of p)))
          ∙ sym (cond-true _ _ _ (lt-ltb d.0 (p s).cards at.listed))
      go _ (nowhere past) = cond-false _ _ _ (le-ltb c (shown p) past)

  pub free_split : free_of (join p) c ≡ located (side_of p c) None (λ s d. free_of (p s) d)
  unfolding join
  free_split = go (side_of p c) (find p c)
    where
      go : (o : Option (Side × CardNo)) → Found p c o →
          cond (nat_lt c (shown p)) (Some (located o 0 (λ s d. (p s).free d))) None ≡ located o None (λ s d. free_of (p s) d)
      go _ (here s d at) =
          cond-true _ _ _ (lt-ltb c (shown p) at.inside) ∙ sym (cond-true _ _ _ (lt-ltb d.0 (p s).cards at.listed))
      go _ (nowhere past) = cond-false _ _ _ (le-ltb c (shown p) past)

  pub shares_split : (b : ℕ) → shares_of (join p) c b ≡ located (side_of p c) None (λ s d. located (side_of p b) None (λ t e. cond (same_side s t) (shares_of (p s) d e) (Some false)))
  unfolding join
  shares_split b = go (side_of p c) (side_of p b) (find p c) (find p b)
    where
      go : (o q : Option (Side × CardNo)) → Found p c o → Found p b q →
          cond (nat_lt c (shown p) && nat_lt b (shown p)) (Some (located o false (λ s d. located q false (λ t e. same_side s t && (p s).shares d e)))) None
          ≡ located o None (λ s d. located q None (λ t e. cond (same_side s t) (shares_of (p s) d e) (Some false)))
      go _ _ (here Left d at) (here Left e by) =
          rw (lt-ltb c (shown p) at.inside, lt-ltb b (shown p) by.inside, lt-ltb d.0 (p Left).cards at.listed, lt-ltb e.0 (p Left).cards by.listed)
      go _ _ (here Left d at) (here Right e by) = rw (lt-ltb c (shown p) at.inside, lt-ltb b (shown p) by.inside)
      go _ _ (here Right d at) (here Left e by) = rw (lt-ltb c (shown p) at.inside, lt-ltb b (shown p) by.inside)
      go _ _ (here Right d at) (here Right e by) =
          rw (lt-ltb c (shown p) at.inside, lt-ltb b (shown p) by.inside, lt-ltb d.0 (p Right).cards at.listed, lt-ltb e.0 (p Right).cards by.listed)
      go _ _ (here s d at) (nowhere past) = cond-false _ _ _ (and_right (nat_lt c (shown p)) (nat_lt b (shown p)) (le-ltb b (shown p) past))
      go _ _ (nowhere past) _ = cond-false _ _ _ (and_left (nat_lt c (shown p)) (nat_lt b (shown p)) (le-ltb c (shown p) past))

  -- a question about a version, that the side's version answers
  pub asked : {A : Type 0} (k : ℕ) (f f' : Version → A) → ((v : Version) → f (narrowed (width_of p) v) ≡ f' v)
      → option_map f (version_at (join p) c k) ≡ located (side_of p c) None (λ s d. option_map f' (version_at (p s) d k))
  unfolding join
  asked k f f' same = go (side_of p c)
    where
      through : (o : Option Version) → option_map f (option_map (narrowed (width_of p)) o) ≡ option_map f' o
      through None = refl
      through (Some v) = ap Some (same v)

      go : (o : Option (Side × CardNo)) →
          option_map f (slice_get (located o [] (λ s d. map (narrowed (width_of p)) ((p s).line d))) k) ≡ located o None (λ s d. option_map f' (version_at (p s) d k))
      go None = refl
      go (Some (s, d)) = ap (option_map f) (slice_get-map (narrowed (width_of p)) ((p s).line d.0) k) ∙ through (slice_get ((p s).line d.0) k)

  -- a question that changes what the side's version answers by h
  pub asked_by : {A B : Type 0} (k : ℕ) (f : Version → B) (f' : Version → A) (h : A → B) → ((v : Version) → f (narrowed (width_of p) v) ≡ h (f' v))
      → option_map f (version_at (join p) c k) ≡ option_map h (located (side_of p c) None (λ s d. option_map f' (version_at (p s) d k)))
  asked_by {A} k f f' h same = asked k f (λ v. h (f' v)) same ∙ go (side_of p c)
    where
      through : (o : Option Version) → option_map (λ v. h (f' v)) o ≡ option_map h (option_map f' o)
      through None = refl
      through (Some v) = refl

      go : (o : Option (Side × CardNo)) → located o None (λ s d. option_map (λ v. h (f' v)) (version_at (p s) d k)) ≡ option_map h (located o None (λ s d. option_map f' (version_at (p s) d k)))
      go None = refl
      go (Some (s, d)) = through (version_at (p s) d.0 k)
