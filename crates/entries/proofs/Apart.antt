-- Numbers of which no two are the same. Assumes nothing.
use Rattle.std.proofs.Common.{◌≡◌, ℕ, zero, suc, ◌+◌, ◌<◌, ◌≤◌, Bool, true, false, cond, not, ◌&&◌, eqb, ltb, List, [], ◌∷◌, ◌++◌, length, get_or, sym, refl, ap, ◌∙◌, ⊎_elim, arith}
use Rattle.std.proofs.lemmas.Bool.{and_parts, and_from, not-true, not_from_false, or_parts, or_from, ltb-true, lt-ltb, le-ltb, eqb-false, ne_eqb, eq-eqb, cases_lt, cases_eq, or_right}
use Rattle.std.proofs.lemmas.Bool.Decides.{nat_tests}
use Rattle.entries.specs.Numbers.{member, apart}

-- how many of the numbers below n are among ks
abbrev pub tally : List ℕ → ℕ → ℕ
tally ks zero = 0
tally ks (suc n) = tally ks n + cond (member ks n) 1 0

pub one_at_most : (b : Bool) → cond {A = ℕ} b 1 0 ≤ 1
one_at_most true = omega arith
one_at_most false = omega arith

pub tally_le : (ks : List ℕ) (n : ℕ) → tally ks n ≤ n
tally_le ks zero = omega arith
tally_le ks (suc n) = omega (arith, tally_le ks n, one_at_most (member ks n))

-- a number below n that is not among them leaves room
pub tally_lt : (ks : List ℕ) (n x : ℕ) → x < n → member ks x ≡ false → tally ks n < n
tally_lt ks zero x h out = absurd (omega arith)
tally_lt ks (suc n) x h out =
    ⊎_elim
    (λ (e : x ≡ n).
    let none : cond {A = ℕ} (member ks n) 1 0 ≡ 0 = ap (λ b. cond {A = ℕ} b 1 0) (ap (member ks) (sym e) ∙ out) in
    omega (arith, tally_le ks n, none))
    (λ (ne : x ≡ n → ⊥).
    let low : x < n = ⊎_elim (λ (l : x < n). l) (λ (g : n ≤ x). absurd (ne (omega arith))) (cases_lt x n) in
    omega (arith, tally_lt ks n x low out, one_at_most (member ks n)))
    (cases_eq x n)

-- one number more
pub tally_more : (k : ℕ) (ks : List ℕ) (n : ℕ) → member ks k ≡ false → tally (k ∷ ks) n ≡ tally ks n + cond {A = ℕ} (ltb k n) 1 0
tally_more k ks zero out = let none : ltb k 0 ≡ false = le-ltb k 0 (omega arith) in rw none (omega arith)
tally_more k ks (suc n) out =
    let rest = tally_more k ks n out in
    ⊎_elim
    (λ (e : k ≡ n).
    let out' : member ks n ≡ false = ap (member ks) (sym e) ∙ out in
    grind (arith, nat_tests, rest, out'))
    (λ (ne : k ≡ n → ⊥). grind (arith, nat_tests, rest))
    (cases_eq k n)

-- what `apart` says of the first number and of the rest
pub apart_parts : (n k : ℕ) (ks : List ℕ) → apart n (k ∷ ks) ≡ true → (k < n) × (member ks k ≡ false) × (apart n ks ≡ true)
apart_parts n k ks h =
    let first = and_parts (ltb k n) (not (member ks k) && apart n ks) h in
    let rest = and_parts (not (member ks k)) (apart n ks) first.1 in
    (ltb-true k n first.0, not-true (member ks k) rest.0, rest.1)

pub apart_from : (n k : ℕ) (ks : List ℕ) → k < n → member ks k ≡ false → apart n ks ≡ true → apart n (k ∷ ks) ≡ true
apart_from n k ks h out rest =
    and_from (ltb k n) (not (member ks k) && apart n ks) (lt-ltb k n h)
    (and_from (not (member ks k)) (apart n ks) (not_from_false (member ks k) out) rest)

pub apart_tally : (n : ℕ) (ks : List ℕ) → apart n ks ≡ true → tally ks n ≡ length ks
apart_tally n [] h = none n
  where
    none : (n : ℕ) → tally [] n ≡ 0
    none zero = refl
    none (suc n) = omega (arith, none n)
apart_tally n (k ∷ ks) h =
    let p = apart_parts n k ks h in
    let one : cond {A = ℕ} (ltb k n) 1 0 ≡ 1 = ap (λ b. cond {A = ℕ} b 1 0) (lt-ltb k n p.0) in
    omega (arith, tally_more k ks n p.1, apart_tally n ks p.2, one)

-- a number that is not among them: there is room for it
pub apart_room : (n x : ℕ) (ks : List ℕ) → apart n ks ≡ true → x < n → member ks x ≡ false → length ks < n
apart_room n x ks h low out = omega (arith, apart_tally n ks h, tally_lt ks n x low out)

pub member_push : (ks : List ℕ) (x k : ℕ) → member ks k ≡ false → eqb x k ≡ false → member (ks ++ x ∷ []) k ≡ false
member_push [] x k out ne = or_from (eqb x k) false ne refl
member_push (y ∷ ks) x k out ne =
    let p = or_parts (eqb y k) (member ks k) out in
    or_from (eqb y k) (member (ks ++ x ∷ []) k) p.0 (member_push ks x k p.1 ne)

pub apart_push : (n x : ℕ) (ks : List ℕ) → apart n ks ≡ true → x < n → member ks x ≡ false → apart n (ks ++ x ∷ []) ≡ true
apart_push n x [] h low out = apart_from n x [] low refl refl
apart_push n x (k ∷ ks) h low out =
    let p = apart_parts n k ks h in
    let o = or_parts (eqb k x) (member ks x) out in
    let ne : eqb x k ≡ false = ne_eqb x k (λ (e : x ≡ k). eqb-false k x o.0 (omega arith)) in
    apart_from n k (ks ++ x ∷ []) p.0 (member_push ks x k p.1 ne) (apart_push n x ks p.2 low o.1)

pub member_at : (ks : List ℕ) (i d : ℕ) → i < length ks → member ks (get_or ks i d) ≡ true
member_at [] i d h = absurd (omega arith)
member_at (k ∷ ks) zero d h = rw (eq-eqb k k refl)
member_at (k ∷ ks) (suc i) d h = or_right (eqb k (get_or ks i d)) (member ks (get_or ks i d)) (member_at ks i d (omega arith))

-- the first is not met again
pub apart_first : (n k : ℕ) (ks : List ℕ) (i d : ℕ) → apart n (k ∷ ks) ≡ true → i < length ks → eqb k (get_or ks i d) ≡ false
apart_first n k ks i d h b =
    ne_eqb k (get_or ks i d) (λ (e : k ≡ get_or ks i d).
    let in_rest : true ≡ false = sym (member_at ks i d b) ∙ ap (member ks) (sym e) ∙ (apart_parts n k ks h).1 in
    let z : ◌≡◌ {A = ℕ} 0 1 = cc in omega arith)
