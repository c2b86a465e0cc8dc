-- Of the versions of a listed card there is a newest that fits.
use Rattle.std.proofs.Common.{◌≡◌, ℕ, zero, suc, ◌<◌, ◌≤◌, ◌⊎◌, List, [], ◌∷◌, refl, subst, inl, inr, arith}
use Rattle.std.proofs.lemmas.Bool.{cases_lt, cases_eq}
use Rattle.isolation.specs.Account.{Account, Reading}
use Rattle.isolation.specs.AccountHistory.{Has}
use Rattle.isolation.specs.Vectors.{Stamps}
use Rattle.isolation.specs.Lawful.{Lawful, Fits, NewestFit}
use Rattle.isolation.proofs.ReadLaw.{some_fits}

-- version n of card x fits each of these readings
abbrev FitsAll : Stamps → (x n : ℕ) → List Reading → Type 0
FitsAll s x n rs = (y m : ℕ) → Has rs y m → (s x n y ≤ m) × (s y m x ≤ n)

fits_one_more : (s : Stamps) (x n : ℕ) (r : Reading) (rs : List Reading)
    → s x n r.card ≤ r.version → s r.card r.version x ≤ n → FitsAll s x n rs → FitsAll s x n (r ∷ rs)
fits_one_more s x n r rs p q f y m (inr h) = f y m h
fits_one_more s x n r rs p q f y m (inl h) =
    subst (λ z. (s x n z ≤ m) × (s z m x ≤ n)) h.0 (subst (λ j. (s x n r.card ≤ j) × (s r.card j x ≤ n)) h.1 (p, q))

fits_or_not : (s : Stamps) (x n : ℕ) (rs : List Reading) → FitsAll s x n rs ⊎ (FitsAll s x n rs → ⊥)
fits_or_not s x n [] = inl (λ y m h. absurd h)
fits_or_not s x n (r ∷ rs) =
    go (cases_lt r.version (s x n r.card)) (cases_lt n (s r.card r.version x)) (fits_or_not s x n rs)
  where
    go : (r.version < s x n r.card) ⊎ (s x n r.card ≤ r.version)
        → (n < s r.card r.version x) ⊎ (s r.card r.version x ≤ n)
        → FitsAll s x n rs ⊎ (FitsAll s x n rs → ⊥) → FitsAll s x n (r ∷ rs) ⊎ (FitsAll s x n (r ∷ rs) → ⊥)
    go (inl lt) q f = inr (λ g. omega (arith, (g r.card r.version (inl (refl, refl))).0))
    go (inr p) (inl lt) f = inr (λ g. omega (arith, (g r.card r.version (inl (refl, refl))).1))
    go (inr p) (inr q) (inr no-fit) = inr (λ g. no-fit (λ y m h. g y m (inr h)))
    go (inr p) (inr q) (inl f) = inl (fits_one_more s x n r rs p q f)

pub newest_fits : (a : Account) (s : Stamps) → Lawful a s → (t x : ℕ) → x < a.listed → (n : ℕ) × NewestFit a s t x n
newest_fits a s l t x lx =
    let (n, le, f) = some_fits a s l t x lx in
    down n f (a.newest x) le (omega arith) (λ m lt lm. absurd (omega arith))
  where
    -- none above d fits, and n, at most d, does
    down : (n : ℕ) → Fits a s t x n → (d : ℕ) → n ≤ d → d ≤ a.newest x
        → ((m : ℕ) → d < m → m ≤ a.newest x → Fits a s t x m → ⊥) → (n : ℕ) × NewestFit a s t x n
    down n f zero le ld none =
        let e : n ≡ zero = omega arith in
        (zero, record { exists = ld; fits = subst (Fits a s t x) e f; newest = none })
    down n f (suc d) le ld none = go (λ lt h. down n f d lt (omega arith) h) (fits_or_not s x (suc d) (a.reads t))
      where
        go : (n ≤ d → ((m : ℕ) → d < m → m ≤ a.newest x → Fits a s t x m → ⊥) → (n : ℕ) × NewestFit a s t x n)
            → Fits a s t x (suc d) ⊎ (Fits a s t x (suc d) → ⊥) → (n : ℕ) × NewestFit a s t x n
        go more (inl g) = (suc d, record { exists = ld; fits = g; newest = none })
        go more (inr ng) = more (lower (cases_eq n (suc d))) (λ m lt lm. above m lt lm (cases_eq m (suc d)))
          where
            lower : (n ≡ suc d) ⊎ (n ≡ suc d → ⊥) → n ≤ d
            lower (inl e) = absurd (ng (subst (Fits a s t x) e f))
            lower (inr ne) = omega arith

            above : (m : ℕ) → d < m → m ≤ a.newest x → (m ≡ suc d) ⊎ (m ≡ suc d → ⊥) → Fits a s t x m → ⊥
            above m lt lm (inl e) g = ng (subst (Fits a s t x) e g)
            above m lt lm (inr ne) g = none m (omega arith) lm g
