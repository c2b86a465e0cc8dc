-- What the choice of a version finds, over readings and stamps.
use Rattle.std.proofs.Common.{◌≡◌, ℕ, zero, suc, ◌<◌, ◌≤◌, true, false, not, eqb, leb, ◌⊎◌, List, [], ◌∷◌, is_some, Some, None, sym, refl, ◌∙◌, subst, inl, inr, arith}
use Rattle.std.proofs.lemmas.Bool.{cases_Bool, cases_eq, both_ways, cond-true, cond-false, eqb-true, leb-true, le-leb, and_parts, and_from, or_from, or_parts, or_cases, not_from_true}
use Rattle.shelf.specs.Meaning.{Meaning, version_at}
use Rattle.isolation.specs.Account.{Reading, has_read}
use Rattle.isolation.specs.AccountHistory.{Has}
use Rattle.transactions.specs.Choosing.{stamps_of, version_read, fits_one, fits_all, newest_fit, lacks}
use Rattle.transactions.proofs.Places.{none_some, some_same}

-- the version read of a card
pub version_read_has : (rs : List Reading) (x k : ℕ) → version_read rs x ≡ Some k → Has rs x k
version_read_has [] x k e = absurd (none_some e)
version_read_has (r ∷ rs) x k e = go (cases_Bool (eqb r.card x)) (λ q. version_read_has rs x k q)
  where
    go : (eqb r.card x ≡ true) ⊎ (eqb r.card x ≡ false) → (version_read rs x ≡ Some k → Has rs x k) → Has (r ∷ rs) x k
    go (inl t) more =
        inl (eqb-true r.card x t, some_same (sym (cond-true (eqb r.card x) (Some r.version) (version_read rs x) t) ∙ e))
    go (inr f) more = inr (more (sym (cond-false (eqb r.card x) (Some r.version) (version_read rs x) f) ∙ e))

pub version_read_none : (rs : List Reading) (x : ℕ) → has_read rs x ≡ false → version_read rs x ≡ None
version_read_none [] x e = refl
version_read_none (r ∷ rs) x e =
    let (p, q) = or_parts (eqb r.card x) (has_read rs x) e in
    cond-false (eqb r.card x) (Some r.version) (version_read rs x) p ∙ version_read_none rs x q

pub version_read_some : (rs : List Reading) (x : ℕ) → has_read rs x ≡ true → (k : ℕ) × (version_read rs x ≡ Some k)
version_read_some [] x e = absurd (both_ways false refl e)
version_read_some (r ∷ rs) x e = go (cases_Bool (eqb r.card x)) (or_cases (eqb r.card x) (has_read rs x) e) (λ q. version_read_some rs x q)
  where
    go : (eqb r.card x ≡ true) ⊎ (eqb r.card x ≡ false) → (eqb r.card x ≡ true) ⊎ (has_read rs x ≡ true)
        → (has_read rs x ≡ true → (k : ℕ) × (version_read rs x ≡ Some k)) → (k : ℕ) × (version_read (r ∷ rs) x ≡ Some k)
    go (inl t) h more = (r.version, cond-true (eqb r.card x) (Some r.version) (version_read rs x) t)
    go (inr f) (inl h) more = absurd (both_ways (eqb r.card x) f h)
    go (inr f) (inr h) more =
        let (k, q) = more h in
        (k, cond-false (eqb r.card x) (Some r.version) (version_read rs x) f ∙ q)

-- the test of a fit, and what it tells
abbrev pub AllFit : Meaning → (x n : ℕ) → List Reading → Type 0
AllFit m x n rs = (y k : ℕ) → Has rs y k → (stamps_of m x n y ≤ k) × (stamps_of m y k x ≤ n)

fits_one_tells : (m : Meaning) (x n : ℕ) (r : Reading) → fits_one m x n r ≡ true
    → (stamps_of m x n r.card ≤ r.version) × (stamps_of m r.card r.version x ≤ n)
fits_one_tells m x n r e =
    let (p, q) = and_parts (leb (stamps_of m x n r.card) r.version) (leb (stamps_of m r.card r.version x) n) e in
    (leb-true (stamps_of m x n r.card) r.version p, leb-true (stamps_of m r.card r.version x) n q)

pub fits_all_tells : (m : Meaning) (x n : ℕ) (rs : List Reading) → fits_all m x n rs ≡ true → AllFit m x n rs
fits_all_tells m x n [] e y k h = absurd h
fits_all_tells m x n (r ∷ rs) e y k (inl h) =
    let (p, q) = fits_one_tells m x n r (and_parts (fits_one m x n r) (fits_all m x n rs) e).0 in (
      subst (λ j. stamps_of m x n y ≤ j) h.1 (subst (λ z. stamps_of m x n z ≤ r.version) h.0 p),
      subst (λ j. stamps_of m y j x ≤ n) h.1 (subst (λ z. stamps_of m z r.version x ≤ n) h.0 q),
    )
fits_all_tells m x n (r ∷ rs) e y k (inr h) = fits_all_tells m x n rs (and_parts (fits_one m x n r) (fits_all m x n rs) e).1 y k h

pub tells_fits_all : (m : Meaning) (x n : ℕ) (rs : List Reading) → AllFit m x n rs → fits_all m x n rs ≡ true
tells_fits_all m x n [] f = refl
tells_fits_all m x n (r ∷ rs) f =
    let (p, q) = f r.card r.version (inl (refl, refl)) in
    and_from (fits_one m x n r) (fits_all m x n rs)
    (and_from (leb (stamps_of m x n r.card) r.version) (leb (stamps_of m r.card r.version x) n)
    (le-leb (stamps_of m x n r.card) r.version p) (le-leb (stamps_of m r.card r.version x) n q))
    (tells_fits_all m x n rs (λ y k h. f y k (inr h)))

-- k is the newest of the versions 0 .. n that fits
pub record Best (m : Meaning) (rs : List Reading) (x n k : ℕ) : Type 0 where
  pub within : k ≤ n
  pub fits : AllFit m x k rs
  pub newest : (j : ℕ) → k < j → j ≤ n → AllFit m x j rs → ⊥

-- where some version fits, the search finds the best
pub newest_fit_best : (m : Meaning) (rs : List Reading) (x n j : ℕ) → j ≤ n → AllFit m x j rs
    → (k : ℕ) × (newest_fit m rs x n ≡ Some k) × Best m rs x n k
newest_fit_best m rs x zero j le f =
    let z : j ≡ 0 = omega arith in
    let g : AllFit m x 0 rs = subst (λ i. AllFit m x i rs) z f in (
      0,
      cond-true (fits_all m x 0 rs) (Some 0) None (tells_fits_all m x 0 rs g),
      record { within = omega arith; fits = g; newest = λ i lt li h. omega arith },
    )
newest_fit_best m rs x (suc n) j le f = go (cases_Bool (fits_all m x (suc n) rs)) (λ li. newest_fit_best m rs x n j li f)
  where
    go : (fits_all m x (suc n) rs ≡ true) ⊎ (fits_all m x (suc n) rs ≡ false)
        → (j ≤ n → (k : ℕ) × (newest_fit m rs x n ≡ Some k) × Best m rs x n k)
        → (k : ℕ) × (newest_fit m rs x (suc n) ≡ Some k) × Best m rs x (suc n) k
    go (inl t) more = (
      suc n,
      cond-true (fits_all m x (suc n) rs) (Some (suc n)) (newest_fit m rs x n) t,
      record { within = omega arith; fits = fits_all_tells m x (suc n) rs t; newest = λ i lt li h. omega arith },
    )
    go (inr e) more =
        let (k, q, b) = more (below (cases_eq j (suc n))) in (
          k,
          cond-false (fits_all m x (suc n) rs) (Some (suc n)) (newest_fit m rs x n) e ∙ q,
          record { within = omega (arith, b.within); fits = b.fits; newest = λ i lt li h. newer b i lt li h (cases_eq i (suc n)) },
        )
      where
        top : (i : ℕ) → i ≡ suc n → AllFit m x i rs → ⊥
        top i q h = both_ways (fits_all m x (suc n) rs) e (tells_fits_all m x (suc n) rs (subst (λ z. AllFit m x z rs) q h))

        below : (j ≡ suc n) ⊎ (j ≡ suc n → ⊥) → j ≤ n
        below (inl q) = absurd (top j q f)
        below (inr ne) = omega arith

        newer : {k : ℕ} → Best m rs x n k → (i : ℕ) → k < i → i ≤ suc n → AllFit m x i rs → (i ≡ suc n) ⊎ (i ≡ suc n → ⊥) → ⊥
        newer b i lt li h (inl q) = top i q h
        newer b i lt li h (inr ne) = b.newest i lt (omega arith) h

-- nothing read is lacking
pub lacks_none : (m : Meaning) (rs : List Reading) → ((x k : ℕ) → Has rs x k → is_some (version_at m x k) ≡ true) → lacks m rs ≡ false
lacks_none m [] h = refl
lacks_none m (r ∷ rs) h =
    or_from (not (is_some (version_at m r.card r.version))) (lacks m rs)
    (not_from_true (is_some (version_at m r.card r.version)) (h r.card r.version (inl (refl, refl))))
    (lacks_none m rs (λ x k q. h x k (inr q)))
