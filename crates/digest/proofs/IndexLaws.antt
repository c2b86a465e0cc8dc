-- Looking up a transaction's owner and the version that it wrote: what one entry more says.
use Rattle.std.proofs.Common.{◌≡◌, ℕ, zero, suc, ◌≤◌, true, cond, eqb, List, ap, refl, ◌∙◌, inl, inr, arith}
use Rattle.std.proofs.lemmas.Bool.Decides.{nat_tests}
use Rattle.std.proofs.lemmas.Bool.{cases_lt}
use Rattle.digest.specs.declared.entry.Entry.{Entry}
use Rattle.digest.specs.Entries.{at, wrote, owner_in, version_in}
use Rattle.digest.proofs.LinkLaws.{NoneFrom}

pub owner_hit : (es : List Entry) (t n : ℕ) → (at es n).transaction.0 ≡ t → owner_in es t (suc n) ≡ (at es n).owner
unfolding owner_in
owner_hit es t n e = grind (arith, nat_tests)

pub version_hit : (es : List Entry) (x t n : ℕ) → wrote (at es n) x t ≡ true → version_in es x t (suc n) ≡ suc n
unfolding version_in
version_hit es x t n e = rw e refl

-- entries that are passed over change nothing
pub owner_skip : (es : List Entry) (t i n : ℕ) → i ≤ n → NoneFrom (λ k. eqb (at es k).transaction.0 t) i n → owner_in es t n ≡ owner_in es t i
unfolding owner_in
owner_skip es t i zero le none = let z : 0 ≡ i = omega arith in ap (owner_in es t) z
owner_skip es t i (suc n) le none = elim (cases_lt n i) [
  | inl top ↦ let z : suc n ≡ i = omega arith in ap (owner_in es t) z
  | inr below ↦ ap (λ b. cond b (at es n).owner (owner_in es t n)) (none n below (omega arith)) ∙ owner_skip es t i n below (λ k ge lt. none k ge (omega arith))
]

pub version_skip : (es : List Entry) (x t i n : ℕ) → i ≤ n → NoneFrom (λ k. wrote (at es k) x t) i n → version_in es x t n ≡ version_in es x t i
unfolding version_in
version_skip es x t i zero le none = let z : 0 ≡ i = omega arith in ap (version_in es x t) z
version_skip es x t i (suc n) le none = elim (cases_lt n i) [
  | inl top ↦ let z : suc n ≡ i = omega arith in ap (version_in es x t) z
  | inr below ↦ ap (λ b. cond b (suc n) (version_in es x t n)) (none n below (omega arith)) ∙ version_skip es x t i n below (λ k ge lt. none k ge (omega arith))
]
