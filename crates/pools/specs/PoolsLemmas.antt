-- What a pool of places answers, keeps, and becomes when a version is added. Assumes nothing.
use Rattle.std.specs.Prelude.{◌≡◌, ℕ, zero, suc, pred, ◌-◌, ◌<◌, ◌≤◌, Bool, true, false, cond, ◌&&◌, ◌≢◌, [], ◌∷◌, ◌++◌, length, Some, ◌==◌, nat_lt, refl}
use Rattle.std.proofs.Common.{sym, ap, subst, ◌∙◌, ⊎_elim, arith}
use Rattle.std.proofs.Math.Path.{fun_ext}
use Rattle.std.specs.List.{slice_get, AllByRecursion}
use Rattle.std.proofs.ByRecursion.{All-push}
use Rattle.std.proofs.lemmas.List.{length_push}
use Rattle.std.proofs.lemmas.Bool.{cases_lt, cases_eq, cond-true, cond-false, cond_both, lt-ltb, le-ltb, eq-eqb, ne_eqb, ltb-true, and_parts, and_left}
use Rattle.std.proofs.lemmas.Bool.Decides.{nat_tests}
use Rattle.shelf.specs.Meaning.{Version, first_version}
use Rattle.shelf.specs.Sound.{Narrow, Sound}
use Rattle.shelf.specs.Putting.{added}
use Rattle.shelf.proofs.Lines.{nth_more, nth_last}
use Rattle.pools.specs.Chains.{gathered, tally}
use Rattle.drawers.specs.Fresh.{no_cards, fresh, all_one}
use Rattle.pools.specs.Pools.{pool_line, pool_of}

module _ (owner : ℕ → ℕ) (at : ℕ → Version) (c : ℕ) where
  pub length_gathered : (n : ℕ) → length (gathered owner at c n) ≡ tally owner c n
  length_gathered zero = refl
  length_gathered (suc n) = go (owner n == c) (length_gathered n)
    where
      go : (b : Bool) → length (gathered owner at c n) ≡ tally owner c n → length (cond b (gathered owner at c n ++ at n ∷ []) (gathered owner at c n)) ≡ cond b (suc (tally owner c n)) (tally owner c n)
      go true before = omega (arith, length_push (gathered owner at c n) (at n))
      go false before = before

  pub tally_le : (n : ℕ) → tally owner c n ≤ n
  tally_le zero = omega arith
  tally_le (suc n) = cond_both (owner n == c) (suc (tally owner c n)) (tally owner c n) (λ k. k ≤ suc n) (λ _. omega (arith, tally_le n)) (λ _. omega (arith, tally_le n))

  -- the version at a place of the card is where its tally says
  pub gathered_at : (n p : ℕ) → p < n → owner p ≡ c → slice_get (gathered owner at c n) (tally owner c p) ≡ Some (at p)
  gathered_at zero p h own = absurd (omega arith)
  gathered_at (suc n) p h own =
      ⊎_elim
      (λ (e : p ≡ n).
      ap (λ k. slice_get (gathered owner at c (suc n)) (tally owner c k)) e
      ∙ ap (λ l. slice_get l (tally owner c n)) (cond-true (owner n == c) _ _ (eq-eqb (owner n) c (ap owner (sym e) ∙ own)))
      ∙ ap (slice_get (gathered owner at c n ++ at n ∷ [])) (sym (length_gathered n))
      ∙ nth_last (gathered owner at c n) (at n) ∙ ap (λ k. Some (at k)) (sym e))
      (λ (ne : p ≢ n).
      let before = gathered_at n p (omega arith) own in
      cond_both (owner n == c) (gathered owner at c n ++ at n ∷ []) (gathered owner at c n) (λ l. slice_get l (tally owner c p) ≡ Some (at p))
      (λ _. nth_more (gathered owner at c n) (at n ∷ []) (tally owner c p) (at p) before)
      (λ _. before))
      (cases_eq p n)

  narrow_all : (w n : ℕ) → ((p : ℕ) → Narrow w (at p)) → AllByRecursion (Narrow w) (gathered owner at c n)
  narrow_all w zero slim = tt
  narrow_all w (suc n) slim =
      cond_both (owner n == c) (gathered owner at c n ++ at n ∷ []) (gathered owner at c n) (AllByRecursion (Narrow w))
      (λ _. All-push (Narrow w) (gathered owner at c n) (at n) (narrow_all w n slim) (slim n))
      (λ _. narrow_all w n slim)

-- only the first n places matter
module _ (owner owner' : ℕ → ℕ) (c : ℕ) where
  pub tally_same : (n : ℕ) → ((k : ℕ) → k < n → owner' k ≡ owner k) → tally owner' c n ≡ tally owner c n
  tally_same zero own = refl
  tally_same (suc n) own =
      let before = tally_same n (λ k (h : k < n). own k (omega arith)) in
      let last = own n (omega arith) in
      λ z. cond (last z == c) (suc (before z)) (before z)

  pub gathered_same : (at at' : ℕ → Version) (n : ℕ) → ((k : ℕ) → k < n → owner' k ≡ owner k) → ((k : ℕ) → k < n → at' k ≡ at k) → gathered owner' at' c n ≡ gathered owner at c n
  gathered_same at at' zero own same = refl
  gathered_same at at' (suc n) own same =
      let before = gathered_same at at' n (λ k (h : k < n). own k (omega arith)) (λ k (h : k < n). same k (omega arith)) in
      let last = own n (omega arith) in
      let here = same n (omega arith) in
      λ z. cond (last z == c) (before z ++ here z ∷ []) (before z)

module _ (cards width size used : ℕ) (owner : ℕ → ℕ) (at : ℕ → Version) where
  pub pool_listed : (c : ℕ) → c < cards → pool_line cards used owner at c ≡ first_version ∷ gathered owner at c used
  pool_listed c h = cond-true _ _ _ (lt-ltb c cards h)

  pub pool_none : (c : ℕ) → cards ≤ c → pool_line cards used owner at c ≡ []
  pool_none c h = cond-false _ _ _ (le-ltb c cards h)

  pub pool_length : (c : ℕ) → c < cards → length (pool_line cards used owner at c) ≡ suc (tally owner c used)
  pool_length c h = ap length (pool_listed c h) ∙ ap suc (length_gathered owner at c used)

  pub pool_first : (c : ℕ) → c < cards → slice_get (pool_line cards used owner at c) 0 ≡ Some first_version
  pool_first c h = ap (λ l. slice_get l 0) (pool_listed c h)

  pub pool_nth : (c p : ℕ) → c < cards → p < used → owner p ≡ c → slice_get (pool_line cards used owner at c) (suc (tally owner c p)) ≡ Some (at p)
  pool_nth c p h in' own = ap (λ l. slice_get l (suc (tally owner c p))) (pool_listed c h) ∙ gathered_at owner at c used p in' own

  pub pool_sound : cards ≤ 256 → width ≤ 256 → size ≤ 65535 → used ≤ size → ((p : ℕ) → Narrow width (at p)) → Sound (pool_of cards width size used owner at)
  pool_sound few narrow sized filled slim =
      record {
        few = few;
        narrow = narrow;
        first = pool_first;
        roomy = λ c h. omega (arith, pool_length c h, tally_le owner at c used, cond-true (nat_lt c cards) (size - used) 0 (lt-ltb c cards h));
        stamps = λ c.
            ⊎_elim
            (λ (h : c < cards). subst (AllByRecursion (Narrow width)) (sym (pool_listed c h)) ((λ i. (omega arith, λ _. refl)), narrow_all owner at c width used slim))
            (λ (h : cards ≤ c). subst (AllByRecursion (Narrow width)) (sym (pool_none c h)) tt)
            (cases_lt c cards);
        shares_itself = λ c h. grind (arith, nat_tests);
        shares_back = λ a b e. grind (arith, nat_tests);
        shares_on = λ a b c e f. grind (arith, nat_tests);
        shares_listed = λ a b e. ltb-true a cards (and_parts _ _ e).0;
        drawer = λ a b e.
            cond-true (nat_lt a cards) (size - used) 0 (and_parts (nat_lt a cards) (nat_lt b cards && true) e).0
            ∙ sym (cond-true (nat_lt b cards) (size - used) 0 (and_parts (nat_lt b cards) true (and_parts (nat_lt a cards) (nat_lt b cards && true) e).1).0);
        no_line = pool_none;
        no_free = λ c h. cond-false _ _ _ (le-ltb c cards h);
      }

-- one version more of card c, in the next place
module _ (cards width size used : ℕ) (owner owner' : ℕ → ℕ) (at at' : ℕ → Version) (c : ℕ) (v : Version)
    (listed : c < cards) (free : used < size)
    (own : owner' used ≡ c) (owned : (k : ℕ) → k < used → owner' k ≡ owner k)
    (here : at' used ≡ v) (kept : (k : ℕ) → k < used → at' k ≡ at k) where
  line_after : (d : ℕ) → pool_line cards (suc used) owner' at' d ≡ cond (d == c) (pool_line cards used owner at d ++ v ∷ []) (pool_line cards used owner at d)
  line_after d =
      ⊎_elim
      (λ (h : d < cards).
      let now = pool_listed cards width size (suc used) owner' at' d h in
      let before = pool_listed cards width size used owner at d h in
      let same = gathered_same owner owner' d at at' used owned kept in
      ⊎_elim
      (λ (e : d ≡ c).
      now
      ∙ ap (λ l. first_version ∷ l) (cond-true (owner' used == d) _ _ (eq-eqb (owner' used) d (own ∙ sym e)))
      ∙ (λ z. first_version ∷ (same z ++ here z ∷ []))
      ∙ ap (λ l. l ++ v ∷ []) (sym before) ∙ sym (cond-true (d == c) _ _ (eq-eqb d c e)))
      (λ (ne : d ≢ c).
      now
      ∙ ap (λ l. first_version ∷ l) (cond-false (owner' used == d) _ _ (ne_eqb (owner' used) d (λ e. ne (sym e ∙ own))))
      ∙ ap (λ l. first_version ∷ l) same ∙ sym before ∙ sym (cond-false (d == c) _ _ (ne_eqb d c ne)))
      (cases_eq d c))
      (λ (h : cards ≤ d).
      pool_none cards width size (suc used) owner' at' d h
      ∙ sym (cond-false (d == c) _ _ (ne_eqb d c (λ e. omega arith)) ∙ pool_none cards width size used owner at d h))
      (cases_lt d cards)

  pub pool_added : pool_of cards width size (suc used) owner' at' ≡ added (pool_of cards width size used owner at) c v
  pool_added =
      let left : (d : ℕ) → cond (nat_lt d cards) (size - suc used) 0 ≡ cond (nat_lt c cards && (nat_lt d cards && true)) (pred (cond (nat_lt d cards) (size - used) 0)) (cond (nat_lt d cards) (size - used) 0) =
      λ d. grind (arith, nat_tests) in
      λ z.
      record {
        cards = cards;
        width = width;
        line = fun_ext line_after z;
        shares = λ a b. nat_lt a cards && (nat_lt b cards && all_one a b);
        free = fun_ext left z;
      }

-- a pool just made
pub pool_empty : (size : ℕ) (owner : ℕ → ℕ) (at : ℕ → Version) → pool_of 0 0 size 0 owner at ≡ no_cards
pool_empty size owner at =
    λ z.
    record {
      cards = 0;
      width = 0;
      line = fun_ext (λ c. pool_none 0 0 size 0 owner at c (omega arith)) z;
      shares = fun_ext (λ a. fun_ext {g = λ (_ : ℕ). false} (λ b. and_left (nat_lt a 0) (nat_lt b 0 && true) (le-ltb a 0 (omega arith)))) z;
      free = fun_ext (λ c. cond-false (nat_lt c 0) (size - 0) 0 (le-ltb c 0 (omega arith))) z;
    }

pub pool_fresh : (cards width size : ℕ) (owner : ℕ → ℕ) (at : ℕ → Version) → pool_of cards width size 0 owner at ≡ fresh (record { cards = cards; width = width; places = size }) all_one
pool_fresh cards width size owner at =
    λ z.
    record {
      cards = cards;
      width = width;
      line = λ c. cond (nat_lt c cards) (first_version ∷ []) [];
      shares = λ a b. nat_lt a cards && (nat_lt b cards && all_one a b);
      free = fun_ext {g = λ (c : ℕ). cond (nat_lt c cards) size 0} (λ c. let all : size - 0 ≡ size = omega arith in ap (λ n. cond (nat_lt c cards) n 0) all) z;
    }
