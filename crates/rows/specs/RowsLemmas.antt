-- What a row of drawers answers, keeps, and becomes when a version is added. Assumes nothing.
use Rattle.std.specs.Prelude.{◌≡◌, ℕ, zero, suc, pred, ◌+◌, ◌-◌, ◌*◌, ◌/◌, ◌<◌, ◌≤◌, false, cond, ◌&&◌, ◌≢◌, [], ◌∷◌, ◌++◌, map, length, Some, ◌==◌, nat_lt, refl}
use Rattle.std.proofs.Common.{sym, ap, subst, ◌∙◌, ⊎_elim, arith}
use Rattle.std.proofs.Math.Path.{fun_ext}
use Rattle.std.specs.List.{slice_get, range_with_len, AllByRecursion}
use Rattle.std.proofs.lemmas.Nat.{div-mul-add}
use Rattle.std.proofs.lemmas.List.FromFn.{length-map-range_with_len, get_or-map-range_with_len, map-range_with_len_more}
use Rattle.std.proofs.lemmas.Option.{slice_get-get_or}
use Rattle.std.proofs.lemmas.Bool.{cases_lt, cases_eq, cond-true, cond-false, lt-ltb, le-ltb, eq-eqb, ne_eqb, eqb-true, ltb-true, and_parts, and_left}
use Rattle.std.proofs.lemmas.Bool.Decides.{nat_tests}
use Rattle.shelf.specs.Meaning.{Version, first_version}
use Rattle.shelf.specs.Sound.{Narrow, Sound}
use Rattle.shelf.specs.Putting.{added}
use Rattle.drawers.specs.Fresh.{no_cards, fresh, each_own}
use Rattle.rows.specs.Rows.{row_line, row_of}

map_counting_same : (f g : ℕ → Version) (a n : ℕ) → ((k : ℕ) → a ≤ k → k < a + n → f k ≡ g k) → map f (range_with_len a n) ≡ map g (range_with_len a n)
map_counting_same f g a zero same = refl
map_counting_same f g a (suc n) same =
    let first = same a (omega arith) (omega arith) in
    let rest = map_counting_same f g (a + 1) n (λ k l h. same k (omega arith) (omega arith)) in
    λ z. first z ∷ rest z

all_counting : (P : Version → Type 0) (f : ℕ → Version) (a n : ℕ) → ((k : ℕ) → P (f k)) → AllByRecursion P (map f (range_with_len a n))
all_counting P f a zero each = tt
all_counting P f a (suc n) each = (each a, all_counting P f (a + 1) n each)

module _ (cards width depth : ℕ) (used : ℕ → ℕ) (at : ℕ → Version) where
  pub row_listed : (c : ℕ) → c < cards → row_line cards depth used at c ≡ first_version ∷ map (λ k. at (c * depth + k)) (range_with_len 0 (used c))
  row_listed c h = cond-true _ _ _ (lt-ltb c cards h)

  pub row_none : (c : ℕ) → cards ≤ c → row_line cards depth used at c ≡ []
  row_none c h = cond-false _ _ _ (le-ltb c cards h)

  pub row_length : (c : ℕ) → c < cards → length (row_line cards depth used at c) ≡ suc (used c)
  row_length c h = ap length (row_listed c h) ∙ ap suc (length-map-range_with_len (λ k. at (c * depth + k)) 0 (used c))

  pub row_first : (c : ℕ) → c < cards → slice_get (row_line cards depth used at c) 0 ≡ Some first_version
  row_first c h = ap (λ l. slice_get l 0) (row_listed c h)

  pub row_nth : (c k : ℕ) → c < cards → k < used c → slice_get (row_line cards depth used at c) (suc k) ≡ Some (at (c * depth + k))
  row_nth c k h in' =
      let f = λ (k : ℕ). at (c * depth + k) in
      let long = length-map-range_with_len f 0 (used c) in
      ap (λ l. slice_get l (suc k)) (row_listed c h)
      ∙ slice_get-get_or (map f (range_with_len 0 (used c))) k first_version (omega arith)
      ∙ ap Some (get_or-map-range_with_len f 0 (used c) k k first_version in' (omega arith))

  pub row_sound : cards ≤ 256 → width ≤ 256 → depth ≤ 4095 → ((c : ℕ) → c < cards → used c ≤ depth) → ((p : ℕ) → Narrow width (at p)) → Sound (row_of cards width depth used at)
  row_sound few narrow shallow kept slim =
      record {
        few = few;
        narrow = narrow;
        first = row_first;
        roomy = λ c h. omega (arith, row_length c h, kept c h, cond-true (nat_lt c cards) (depth - used c) 0 (lt-ltb c cards h));
        stamps = λ c.
            ⊎_elim
            (λ (h : c < cards). subst (AllByRecursion (Narrow width)) (sym (row_listed c h)) ((λ i. (omega arith, λ _. refl)), all_counting (Narrow width) _ 0 (used c) (λ k. slim (c * depth + k))))
            (λ (h : cards ≤ c). subst (AllByRecursion (Narrow width)) (sym (row_none c h)) tt)
            (cases_lt c cards);
        shares_itself = λ c h. grind (arith, nat_tests);
        shares_back = λ a b e. grind (arith, nat_tests);
        shares_on = λ a b c e f. grind (arith, nat_tests);
        shares_listed = λ a b e. ltb-true a cards (and_parts _ _ e).0;
        drawer = λ a b e. ap (λ c. cond (nat_lt c cards) (depth - used c) 0) (eqb-true a b (and_parts (nat_lt b cards) (a == b) (and_parts (nat_lt a cards) (nat_lt b cards && a == b) e).1).1);
        no_line = row_none;
        no_free = λ c h. cond-false _ _ _ (le-ltb c cards h);
      }

-- two places of different drawers are different
apart : (depth c d j k : ℕ) → d ≢ c → j < depth → k < depth → d * depth + k ≢ c * depth + j
apart depth c d j k ne hj hk same =
    ne (sym (div-mul-add d depth k hk) ∙ ap (λ p. p / depth) same ∙ div-mul-add c depth j hj)

-- one version more of card c, at the place after its last
module _ (cards width depth : ℕ) (used used' : ℕ → ℕ) (at at' : ℕ → Version) (c : ℕ) (v : Version)
    (listed : c < cards) (free : used c < depth)
    (kept : (d : ℕ) → d < cards → used d ≤ depth)
    (more : used' c ≡ suc (used c)) (as_many : (d : ℕ) → d ≢ c → used' d ≡ used d)
    (here : at' (c * depth + used c) ≡ v) (others : (p : ℕ) → p ≢ c * depth + used c → at' p ≡ at p) where
  line_here : row_line cards depth used' at' c ≡ row_line cards depth used at c ++ v ∷ []
  line_here =
      let f = λ (k : ℕ). at (c * depth + k) in
      let f' = λ (k : ℕ). at' (c * depth + k) in
      row_listed cards width depth used' at' c listed
      ∙ ap (λ n. first_version ∷ map f' (range_with_len 0 n)) (more ∙ omega arith)
      ∙ ap (λ l. first_version ∷ l) (map-range_with_len_more f' 0 (used c) (used c) (omega arith))
      ∙ ap (λ l. first_version ∷ (l ++ f' (used c) ∷ [])) (map_counting_same f' f 0 (used c) (λ k l h. others (c * depth + k) (omega arith)))
      ∙ ap (λ x. first_version ∷ (map f (range_with_len 0 (used c)) ++ x ∷ [])) here
      ∙ ap (λ l. l ++ v ∷ []) (sym (row_listed cards width depth used at c listed))

  line_other : (d : ℕ) → d ≢ c → row_line cards depth used' at' d ≡ row_line cards depth used at d
  line_other d ne =
      ⊎_elim
      (λ (h : d < cards).
      row_listed cards width depth used' at' d h
      ∙ ap (λ n. first_version ∷ map (λ k. at' (d * depth + k)) (range_with_len 0 n)) (as_many d ne)
      ∙ ap (λ l. first_version ∷ l)
      (map_counting_same (λ k. at' (d * depth + k)) (λ k. at (d * depth + k)) 0 (used d)
      (λ k l u. others (d * depth + k) (apart depth c d (used c) k ne free (omega (arith, kept d h)))))
      ∙ sym (row_listed cards width depth used at d h))
      (λ (h : cards ≤ d). row_none cards width depth used' at' d h ∙ sym (row_none cards width depth used at d h))
      (cases_lt d cards)

  pub row_added : row_of cards width depth used' at' ≡ added (row_of cards width depth used at) c v
  row_added =
      let line : (d : ℕ) → row_line cards depth used' at' d ≡ cond (d == c) (row_line cards depth used at d ++ v ∷ []) (row_line cards depth used at d) =
      λ d.
      ⊎_elim
      (λ (e : d ≡ c).
      ap (row_line cards depth used' at') e ∙ line_here ∙ ap (λ d. row_line cards depth used at d ++ v ∷ []) (sym e)
      ∙ sym (cond-true (d == c) _ _ (eq-eqb d c e)))
      (λ (ne : d ≢ c). line_other d ne ∙ sym (cond-false (d == c) _ _ (ne_eqb d c ne)))
      (cases_eq d c) in
      let shared = λ (d : ℕ). nat_lt c cards && (nat_lt d cards && c == d) in
      let left : (d : ℕ) → cond (nat_lt d cards) (depth - used' d) 0 ≡ cond (shared d) (pred (cond (nat_lt d cards) (depth - used d) 0)) (cond (nat_lt d cards) (depth - used d) 0) =
      λ d.
      ⊎_elim
      (λ (e : d ≡ c). let same : used' d ≡ suc (used d) = ap used' e ∙ more ∙ ap (λ x. suc (used x)) (sym e) in grind (arith, nat_tests))
      (λ (ne : d ≢ c). let same = as_many d ne in grind (arith, nat_tests))
      (cases_eq d c) in
      λ z.
      record {
        cards = cards;
        width = width;
        line = fun_ext line z;
        shares = λ a b. nat_lt a cards && (nat_lt b cards && a == b);
        free = fun_ext left z;
      }

-- a row just made
pub row_empty : (depth : ℕ) (used : ℕ → ℕ) (at : ℕ → Version) → row_of 0 0 depth used at ≡ no_cards
row_empty depth used at =
    λ z.
    record {
      cards = 0;
      width = 0;
      line = fun_ext (λ c. row_none 0 0 depth used at c (omega arith)) z;
      shares = fun_ext (λ a. fun_ext {g = λ (_ : ℕ). false} (λ b. and_left (nat_lt a 0) (nat_lt b 0 && a == b) (le-ltb a 0 (omega arith)))) z;
      free = fun_ext (λ c. cond-false (nat_lt c 0) (depth - used c) 0 (le-ltb c 0 (omega arith))) z;
    }

pub row_fresh : (cards width depth : ℕ) (used : ℕ → ℕ) (at : ℕ → Version) → ((c : ℕ) → used c ≡ 0) → row_of cards width depth used at ≡ fresh (record { cards = cards; width = width; places = depth }) each_own
row_fresh cards width depth used at none =
    λ z.
    record {
      cards = cards;
      width = width;
      line = λ c. cond (nat_lt c cards) (first_version ∷ map (λ k. at (c * depth + k)) (range_with_len 0 (none c z))) [];
      shares = λ a b. nat_lt a cards && (nat_lt b cards && a == b);
      free = fun_ext {g = λ (c : ℕ). cond (nat_lt c cards) depth 0} (λ c. ap (λ n. cond (nat_lt c cards) (depth - n) 0) (none c) ∙ ap (λ n. cond (nat_lt c cards) n 0) (omega arith)) z;
    }
