-- One transaction more is asked.
use Rattle.std.proofs.Common.{◌≡◌, ℕ, ◌+◌, ◌<◌, Bool, true, false, not, ◌&&◌, List, length, refl, subst, inl, inr, arith}
use Rattle.std.proofs.lemmas.Bool.{cases_lt}
use Rattle.digest.specs.declared.entry.Entry.{Entry}
use Rattle.digest.specs.Entries.{at}
use Rattle.answers.specs.Questions.{Each}

pub each_more : (es : List Entry) (S : ℕ → Bool → Type 0) (n : ℕ) (r b : Bool) → n < length es → (at es n).owner ≡ n → S n b → Each es S n r → Each es S (n + 1) (r && not b)
each_more es S n true true lt own now' h = (n, (lt, own), now')
each_more es S n true false lt own now' h = λ o less is. elim (cases_lt o n) [
  | inl small ↦ h o small is
  | inr large ↦ let e : n ≡ o = omega arith in subst (λ k. S k false) e now'
]
each_more es S n false b lt own now' h = h

-- one that is not asked where some answered yes before
pub each_told : (es : List Entry) (S : ℕ → Bool → Type 0) (n : ℕ) (r s : Bool) → n < length es → (at es n).owner ≡ n → (r ≡ true → S n (not s))
    → (r ≡ false → s ≡ false) → Each es S n r → Each es S (n + 1) s
each_told es S n true true lt own told kept h = each_more es S n true false lt own (told refl) h
each_told es S n true false lt own told kept h = each_more es S n true true lt own (told refl) h
each_told es S n false true lt own told kept h = let z : true ≡ false = kept refl in absurd (cc)
each_told es S n false false lt own told kept h = h

pub each_skip : (es : List Entry) (S : ℕ → Bool → Type 0) (n : ℕ) (r : Bool) → ((at es n).owner ≡ n → ⊥) → Each es S n r → Each es S (n + 1) r
each_skip es S n true other h = λ o less is. elim (cases_lt o n) [
  | inl small ↦ h o small is
  | inr large ↦ let e : o ≡ n = omega arith in absurd (other (subst (λ k. (at es k).owner ≡ k) e is))
]
each_skip es S n false other h = h
