-- Putting into a split is putting into one of its sides. Assumes nothing.
use Rattle.std.proofs.Common.{◌≡◌, ℕ, pred, ◌+◌, ◌-◌, ◌<◌, ◌≤◌, min, Bool, true, false, cond, ◌&&◌, eqb, ltb, leb, List, [], ◌∷◌, ◌++◌, map, length, is_ok, Some, None, Ok, Err, Option, sym, refl, ap, ◌∙◌, subst, ⊎_elim, arith}
use mathlib.Core.Path.{fun_ext}
use Rattle.std.proofs.lemmas.List.{map_push}
use Rattle.std.proofs.lemmas.Bool.{cases_lt, cond-true, cond-false, lt-ltb, le-ltb, lt-leb, le-leb, ne_eqb, and_left}
use Rattle.std.proofs.lemmas.Bool.Decides.{nat_tests}
use Rattle.stamps.specs.Counts.{cut, countable, all_small}
use Rattle.stamps.specs.declared.numbers.CardNo.{CardNo}
use Rattle.stamps.specs.declared.value.Value.{Value}
use Rattle.shelf.specs.declared.refusal.PutRefusal.TheVariants.{NoCard, BadStamp, NoPlace}
use Rattle.splits.specs.declared.split.Side.{Side}
use Rattle.splits.specs.declared.split.Side.TheVariants.{Left, Right}
use Rattle.shelf.specs.Meaning.{Version}
use Rattle.shelf.specs.Putting.{put_answer, made_version, added, after_put}
use Rattle.splits.specs.Split.{Parts, same_side, side_at, side_of, located, narrowed, join, with_side, Kept}
use Rattle.shelf.proofs.Counts.{cut_short}
use Rattle.splits.specs.Splits.{On, Found, here, nowhere, find, on, shown, width_of, versions_split, newest_split, free_split, shares_split, asked, asked_by}

same_again : (p : Parts) (s t : Side) → with_side p s (p s) t ≡ p t
same_again p Left Left = refl
same_again p Left Right = refl
same_again p Right Left = refl
same_again p Right Right = refl

-- one version more of card d on side s, which is card c of the whole
module _ (p : Parts) (s : Side) (d : ℕ) (v : Version) where
  abbrev p' : Parts
  p' = with_side p s (added (p s) d v)

  cards_kept : (t : Side) → (p' t).cards ≡ (p t).cards
  cards_kept = go s
    where
      go : (s t : Side) → (with_side p s (added (p s) d v) t).cards ≡ (p t).cards
      go Left Left = refl
      go Left Right = refl
      go Right Left = refl
      go Right Right = refl

  width_kept : (t : Side) → (p' t).width ≡ (p t).width
  width_kept = go s
    where
      go : (s t : Side) → (with_side p s (added (p s) d v) t).width ≡ (p t).width
      go Left Left = refl
      go Left Right = refl
      go Right Left = refl
      go Right Right = refl

  shares_kept : (t : Side) → (p' t).shares ≡ (p t).shares
  shares_kept = go s
    where
      go : (s t : Side) → (with_side p s (added (p s) d v) t).shares ≡ (p t).shares
      go Left Left = refl
      go Left Right = refl
      go Right Left = refl
      go Right Right = refl

  line_more : (t : Side) (k : ℕ) → (p' t).line k ≡ cond (same_side t s && eqb k d) ((p t).line k ++ v ∷ []) ((p t).line k)
  line_more = go s
    where
      go : (s t : Side) (k : ℕ) → (with_side p s (added (p s) d v) t).line k ≡ cond (same_side t s && eqb k d) ((p t).line k ++ v ∷ []) ((p t).line k)
      go Left Left k = refl
      go Left Right k = refl
      go Right Left k = refl
      go Right Right k = refl

  free_less : (t : Side) (k : ℕ) → (p' t).free k ≡ cond (same_side s t && (p s).shares d k) (pred ((p t).free k)) ((p t).free k)
  free_less = go s
    where
      go : (s t : Side) (k : ℕ) → (with_side p s (added (p s) d v) t).free k ≡ cond (same_side s t && (p s).shares d k) (pred ((p t).free k)) ((p t).free k)
      go Left Left k = refl
      go Left Right k = refl
      go Right Left k = refl
      go Right Right k = refl

-- two cards of the whole are one where their sides and numbers are
one_card : (p : Parts) (c e : ℕ) (s t : Side) (d k : ℕ) → On p c s d → On p e t k → (same_side t s && eqb k d) ≡ eqb e c
one_card p c e Left Left d k at by = let x = at.is in let y = by.is in grind (arith, nat_tests)
one_card p c e Left Right d k at by = sym (ne_eqb e c (λ same. omega (arith, at.is, by.is, at.listed)))
one_card p c e Right Left d k at by = sym (ne_eqb e c (λ same. omega (arith, at.is, by.is, by.listed)))
one_card p c e Right Right d k at by = let x = at.is in let y = by.is in grind (arith, nat_tests)

-- a line of the whole
map_cond : (w : ℕ) (b : Bool) (l : List Version) (v : Version) → map (narrowed w) (cond b (l ++ v ∷ []) l) ≡ cond b (map (narrowed w) l ++ narrowed w v ∷ []) (map (narrowed w) l)
map_cond w true l v = map_push (narrowed w) l v
map_cond w false l v = refl

module _ (p : Parts) (c : ℕ) (s : Side) (d : CardNo) (kept : side_of p c ≡ Some (s, d)) (v : Version) where
  at : On p c s d.0
  at = on p c s d kept

  abbrev q : Parts
  q = with_side p s (added (p s) d.0 v)

  side_kept : (e : ℕ) → side_of q e ≡ side_of p e
  side_kept e = λ z. side_at (cards_kept p s d.0 v Left z) (cards_kept p s d.0 v Right z) e

  wide : width_of q ≡ width_of p
  wide = λ z. min (width_kept p s d.0 v Left z) (width_kept p s d.0 v Right z)

  line_whole : (e : ℕ) (o : Option (Side × CardNo)) → Found p e o →
      located o [] (λ t k. map (narrowed (width_of p)) ((q t).line k))
      ≡ cond (eqb e c) (located o [] (λ t k. map (narrowed (width_of p)) ((p t).line k)) ++ narrowed (width_of p) v ∷ []) (located o [] (λ t k. map (narrowed (width_of p)) ((p t).line k)))
  line_whole e _ (here t k by) =
      ap (map (narrowed (width_of p))) (line_more p s d.0 v t k.0)
      ∙ map_cond (width_of p) (same_side t s && eqb k.0 d.0) ((p t).line k.0) v
      ∙ ap (λ b. cond b (map (narrowed (width_of p)) ((p t).line k.0) ++ narrowed (width_of p) v ∷ []) (map (narrowed (width_of p)) ((p t).line k.0)))
      (one_card p c e s t d.0 k.0 at by)
  line_whole e _ (nowhere past) = sym (cond-false (eqb e c) _ _ (ne_eqb e c (λ same. omega (arith, at.inside))))

  free_whole : (o : Option (Side × CardNo)) →
      located o 0 (λ t k. (q t).free k)
      ≡ cond (located o false (λ t k. same_side s t && (p s).shares d.0 k)) (pred (located o 0 (λ t k. (p t).free k))) (located o 0 (λ t k. (p t).free k))
  free_whole None = refl
  free_whole (Some (t, k)) = free_less p s d.0 v t k.0

  pub join_added : join q ≡ added (join p) c (narrowed (width_of p) v)
  unfolding join
  join_added =
      let line : (e : ℕ) → located (side_of q e) [] (λ t k. map (narrowed (width_of q)) ((q t).line k))
      ≡ cond (eqb e c) (located (side_of p e) [] (λ t k. map (narrowed (width_of p)) ((p t).line k)) ++ narrowed (width_of p) v ∷ []) (located (side_of p e) [] (λ t k. map (narrowed (width_of p)) ((p t).line k))) =
      λ e. (λ z. located (side_kept e z) [] (λ t k. map (narrowed (wide z)) ((q t).line k))) ∙ line_whole e (side_of p e) (find p e) in
      let mine : (e : ℕ) → located (side_of p e) false (λ t k. same_side s t && (p s).shares d.0 k) ≡ located (side_of p c) false (λ s d. located (side_of p e) false (λ t k. same_side s t && (p s).shares d k)) =
      λ e. ap (λ o. located o false (λ s d. located (side_of p e) false (λ t k. same_side s t && (p s).shares d k))) (sym kept) in
      let free : (e : ℕ) → located (side_of q e) 0 (λ t k. (q t).free k)
      ≡ cond (located (side_of p c) false (λ s d. located (side_of p e) false (λ t k. same_side s t && (p s).shares d k))) (pred (located (side_of p e) 0 (λ t k. (p t).free k))) (located (side_of p e) 0 (λ t k. (p t).free k)) =
      λ e.
      ap (λ o. located o 0 (λ t k. (q t).free k)) (side_kept e) ∙ free_whole (side_of p e)
      ∙ ap (λ b. cond b (pred (located (side_of p e) 0 (λ t k. (p t).free k))) (located (side_of p e) 0 (λ t k. (p t).free k))) (mine e) in
      λ z.
      record {
        cards = min (cards_kept p s d.0 v Left z + cards_kept p s d.0 v Right z) 256;
        width = wide z;
        line = fun_ext line z;
        shares = λ a b. located (side_kept a z) false (λ t k. located (side_kept b z) false (λ u e. same_side t u && shares_kept p s d.0 v t z k e));
        free = fun_ext free z;
      }

-- what the whole answers and becomes, from what the side does
module _ (p : Parts) (c : ℕ) (s : Side) (d : CardNo) (kept : side_of p c ≡ Some (s, d)) (xs : List ℕ) (short : length xs ≤ width_of p) where
  on_side : On p c s d.0
  on_side = on p c s d kept

  wider : width_of p ≤ (p s).width
  wider = go s
    where
      go : (s : Side) → width_of p ≤ (p s).width
      go Left = omega arith
      go Right = omega arith

  free_there : located (side_of p c) 0 (λ s d. (p s).free d) ≡ (p s).free d.0
  free_there = ap (λ o. located o 0 (λ s d. (p s).free d)) kept

  same_answer : put_answer (join p) c xs ≡ put_answer (p s) d.0 xs
  unfolding join
  same_answer =
      let shows = lt-ltb c (shown p) on_side.inside in
      let listed = lt-ltb d.0 (p s).cards on_side.listed in
      let fits : countable (width_of p) xs ≡ countable (p s).width xs =
      ap (λ b. b && all_small xs) (le-leb (length xs) (width_of p) short ∙ sym (le-leb (length xs) (p s).width (omega (arith, wider)))) in
      cond-true _ _ _ shows
      ∙ (λ z. cond (fits z) (cond (ltb 0 (free_there z)) (Ok tt) (Err NoPlace)) (Err BadStamp))
      ∙ sym (cond-true _ _ _ listed)

  module _ (t : Value) (w : ℕ) where
    version_kept : narrowed (width_of p) (made_version t w xs) ≡ made_version t w xs
    version_kept = λ z. record { value = t; writer = w; stamp = fun_ext (cut_short (width_of p) xs short) z }

    after_there : after_put (join p) c t w xs ≡ join (with_side p s (after_put (p s) d.0 t w xs))
    after_there =
        ap (λ a. cond (is_ok a) (added (join p) c (made_version t w xs)) (join p)) same_answer
        ∙ sym (go (is_ok (put_answer (p s) d.0 xs)))
      where
        go : (b : Bool) → join (with_side p s (cond b (added (p s) d.0 (made_version t w xs)) (p s))) ≡ cond b (added (join p) c (made_version t w xs)) (join p)
        go true = join_added p c s d kept (made_version t w xs) ∙ ap (added (join p) c) version_kept
        go false = ap join (fun_ext (same_again p s))

-- the same, wherever the card is kept
module _ (p : Parts) (c : ℕ) where
  answer_nowhere : (xs : List ℕ) → shown p ≤ c → put_answer (join p) c xs ≡ Err NoCard
  unfolding join
  answer_nowhere xs past = cond-false _ _ _ (le-ltb c (shown p) past)

  answer_long : (xs : List ℕ) → c < shown p → width_of p < length xs → put_answer (join p) c xs ≡ Err BadStamp
  unfolding join
  answer_long xs inside long =
      cond-true _ _ _ (lt-ltb c (shown p) inside)
      ∙ cond-false _ _ _ (and_left (leb (length xs) (width_of p)) (all_small xs) (lt-leb (length xs) (width_of p) long))

  pub answer_split : (xs : List ℕ)
      → put_answer (join p) c xs ≡ located (side_of p c) (Err NoCard) (λ s d. cond (leb (length xs) (width_of p)) (put_answer (p s) d xs) (Err BadStamp))
  answer_split xs = go (side_of p c) refl (find p c)
    where
      go : (o : Option (Side × CardNo)) → side_of p c ≡ o → Found p c o
          → put_answer (join p) c xs ≡ located o (Err NoCard) (λ s d. cond (leb (length xs) (width_of p)) (put_answer (p s) d xs) (Err BadStamp))
      go _ is (here s d at) =
          ⊎_elim
          (λ (long : width_of p < length xs). answer_long xs at.inside long ∙ sym (cond-false _ _ _ (lt-leb (length xs) (width_of p) long)))
          (λ (short : length xs ≤ width_of p). same_answer p c s d is xs short ∙ sym (cond-true _ _ _ (le-leb (length xs) (width_of p) short)))
          (cases_lt (width_of p) (length xs))
      go _ is (nowhere past) = answer_nowhere xs past

  pub after_split : (t : Value) (w : ℕ) (xs : List ℕ) → length xs ≤ width_of p
      → after_put (join p) c t w xs ≡ located (side_of p c) (join p) (λ s d. join (with_side p s (after_put (p s) d t w xs)))
  after_split t w xs short = go (side_of p c) refl (find p c)
    where
      go : (o : Option (Side × CardNo)) → side_of p c ≡ o → Found p c o
          → after_put (join p) c t w xs ≡ located o (join p) (λ s d. join (with_side p s (after_put (p s) d t w xs)))
      go _ is (here s d at) = after_there p c s d is xs short t w
      go _ is (nowhere past) = ap (λ a. cond (is_ok a) (added (join p) c (made_version t w xs)) (join p)) (answer_nowhere xs past)

-- all that follows from where a card is kept
pub kept : (p : Parts) (c : ℕ) → Kept p c (side_of p c)
unfolding join
kept p c =
    record {
      side = refl;
      versions = versions_split p c;
      newest = newest_split p c;
      shares = shares_split p c;
      free = free_split p c;
      value = λ k. asked p c k (λ v. v.value) (λ v. v.value) (λ v. refl);
      writer = λ k. asked p c k (λ v. record { 0 = v.writer }) (λ v. record { 0 = v.writer }) (λ v. refl);
      entry = λ k i. asked_by p c k (λ v. v.stamp i) (λ v. v.stamp i) (λ n. cond (ltb i (width_of p)) n 0) (λ v. refl);
      stamp = λ k. asked_by p c k (λ v. v.stamp) (λ v. v.stamp) (cut (width_of p)) (λ v. refl);
      answer = answer_split p c;
      after = after_split p c;
    }

-- where a card is kept, by the numbers of cards that the sides told
module _ (p : Parts) (c a n : ℕ) (left : a ≡ (p Left).cards) (whole : n ≡ (join p).cards) where
  pub kept_nowhere : n ≤ c → Kept p c None
  unfolding join
  kept_nowhere past = subst (Kept p c) (cond-false (ltb c (shown p)) _ _ (le-ltb c (shown p) (omega (arith, whole)))) (kept p c)

  pub kept_left : c < n → c < a → Kept p c (Some (Left, record { 0 = c }))
  unfolding join
  kept_left inside low =
      subst (Kept p c)
      (cond-true (ltb c (shown p)) _ _ (lt-ltb c (shown p) (omega (arith, whole)))
      ∙ cond-true (ltb c (p Left).cards) _ _ (lt-ltb c (p Left).cards (omega (arith, left))))
      (kept p c)

  pub kept_right : c < n → a ≤ c → Kept p c (Some (Right, record { 0 = c - a }))
  unfolding join
  kept_right inside high =
      subst (Kept p c)
      (cond-true (ltb c (shown p)) _ _ (lt-ltb c (shown p) (omega (arith, whole)))
      ∙ cond-false (ltb c (p Left).cards) _ _ (le-ltb c (p Left).cards (omega (arith, left)))
      ∙ (λ z. Some (Right, record { 0 = c - sym left z })))
      (kept p c)
