-- A stamp made from the written cards alone misses a dependence: transaction 1 writes card 0, transaction 2 reads that and writes
-- card 1, and transaction 3, which read card 0 before, is let read card 1 from 2.
use Rattle.std.proofs.Common.{◌≡◌, ℕ, ◌<◌, ◌≤◌, Bool, true, false, cond, eqb, ◌⊎◌, sym, refl, subst, inl, inr, arith}
use Rattle.std.proofs.lemmas.Bool.{both_ways, or_cases, eqb-true}
use Rattle.isolation.specs.History.Depends.{one, more}
use Rattle.stamps.specs.Blank.{blank}
use Rattle.isolation.specs.Account.{Account, fresh, after_open, after_read, after_draft, after_commit}
use Rattle.isolation.specs.Vectors.{Stamps}
use Rattle.isolation.specs.Lawful.{Lawful, Outdated, Extends, new_entry}
use Rattle.isolation.specs.Reasons.{short_stamps, ShortStampsMiss}
use Rattle.isolation.proofs.Steps.{fresh_lawful, open_lawful, draft_lawful}
use Rattle.isolation.proofs.ReadLaw.{read_lawful}
use Rattle.isolation.proofs.CommitLaw.{commit_lawful}
use Rattle.isolation.proofs.Theorems.{current}
use Rattle.isolation.proofs.Cases.{below_two, from}

-- a stamp whose own entry alone is above 0
abbrev own_alone : Stamps
own_alone x k y = cond (eqb x y) k 0

-- the one card drafted
only : (y x : ℕ) → (eqb y x ≡ true) ⊎ (false ≡ true) → y ≡ x
only y x (inl e) = eqb-true y x e
only y x (inr e) = absurd (both_ways false refl e)

-- all three open, and 3 reads card 0
abbrev third_read : Account
third_read = after_read (after_open (after_open (after_open (fresh 2)))) 3 0 0

third_read_lawful : Lawful third_read own_alone
third_read_lawful =
    let l = open_lawful (fresh 2) own_alone (fresh_lawful 2 own_alone zeros) in
    let l2 = open_lawful (after_open (fresh 2)) own_alone l in
    let l3 = open_lawful (after_open (after_open (fresh 2))) own_alone l2 in
    read_lawful (after_open (after_open (after_open (fresh 2)))) own_alone l3 3 0 0 refl (omega arith) (omega arith) (λ e y m r. absurd r)
  where
    either : (b : Bool) → ◌≡◌ {A = ℕ} (cond b 0 0) 0
    either true = refl
    either false = refl

    zeros : (x y : ℕ) → x < 2 → y < 2 → own_alone x 0 y ≡ 0
    zeros x y lx ly = either (eqb x y)

-- 1 reads and drafts card 0
abbrev first_drafted : Account
first_drafted = after_draft (after_read third_read 1 0 0) 1 0 blank

first_drafted_lawful : Lawful first_drafted own_alone
first_drafted_lawful =
    let l = read_lawful third_read own_alone third_read_lawful 1 0 0 refl (omega arith) (omega arith) (λ e y m r. absurd r) in
    draft_lawful (after_read third_read 1 0 0) own_alone 1 0 blank l (0, inl (refl, refl))

-- and commits
abbrev first_written : Account
first_written = after_commit first_drafted 1

first_written_lawful : Lawful first_written own_alone
first_written_lawful =
    let stands = current first_drafted first_drafted_lawful.kept 1 (λ b. omega (arith, b.newer)) in
    commit_lawful first_drafted own_alone first_drafted_lawful 1 refl stands own_alone extends
  where
    extends : Extends first_drafted own_alone 1 own_alone
    extends = record {
      old = λ x k y lx le ly. refl;
      new = λ x y d ly.
          let at-0 = below_two (λ z. own_alone 0 1 z ≡ new_entry first_drafted own_alone 1 z) refl refl y ly in
          let e : 0 ≡ x = only 0 x (or_cases (eqb 0 x) false d) in
          subst (λ z. own_alone z 1 y ≡ new_entry first_drafted own_alone 1 y) e at-0;
    }

-- 2 reads both cards, and drafts card 1
abbrev second_read : Account
second_read = after_read (after_read first_written 2 0 1) 2 1 0

abbrev second_drafted : Account
second_drafted = after_draft second_read 2 1 blank

second_drafted_lawful : Lawful second_drafted own_alone
second_drafted_lawful =
    let l = read_lawful first_written own_alone first_written_lawful 2 0 1 refl (omega arith) (omega arith) (λ e y m r. absurd r) in
    let l2 = read_lawful (after_read first_written 2 0 1) own_alone l 2 1 0 refl (omega arith) (omega arith) (λ e. fits) in
    draft_lawful second_read own_alone 2 1 blank l2 (0, inr (inl (refl, refl)))
  where
    fits : (y m : ℕ) → ((0 ≡ y) × (1 ≡ m)) ⊎ ⊥ → (own_alone 1 0 y ≤ m) × (own_alone y m 1 ≤ 0)
    fits y m (inr e) = absurd e
    fits y m (inl e) =
        subst (λ z. (own_alone 1 0 z ≤ m) × (own_alone z m 1 ≤ 0)) e.0
        (subst (λ j. (own_alone 1 0 0 ≤ j) × (own_alone 0 j 1 ≤ 0)) e.1 (omega arith))

pub short_stamps_miss : ShortStampsMiss
short_stamps_miss = record {
  account = second_drafted;
  stamps = own_alone;
  writer = 2;
  reader = 3;
  card = 1;
  version = 1;
  lawful = second_drafted_lawful;
  is_open = refl;
  current = stands;
  may_read = record { is_open = refl; is_listed = omega arith; is_first = refl };
  exists = omega arith;
  fits = fits;
  breaks = λ c.
      let two-one = one (from (after_read (after_commit second_drafted 2) 3 1 1) 2 1 0 1 (inl (refl, refl)) (omega arith, omega arith, refl)) in
      let three-two = from (after_read (after_commit second_drafted 2) 3 1 1) 3 2 1 1 (inr (inl (refl, refl))) (omega arith, omega arith, refl) in
      let le = c 1 0 0 1 (inl (refl, refl)) (more three-two two-one) (omega arith, omega arith, refl) in
      omega arith;
}
  where
    stands : Outdated second_drafted 2 → ⊥
    stands b =
        let e : 1 ≡ b.card = only 1 b.card (or_cases (eqb 1 b.card) false b.draft) in
        let lt : b.version < 0 = subst (λ z. b.version < second_drafted.newest z) (sym e) b.newer in
        omega arith

    s' : Stamps
    s' = short_stamps second_drafted own_alone 2

    fits : (y m : ℕ) → ((0 ≡ y) × (0 ≡ m)) ⊎ ⊥ → (s' 1 1 y ≤ m) × (s' y m 1 ≤ 1)
    fits y m (inr e) = absurd e
    fits y m (inl e) =
        subst (λ z. (s' 1 1 z ≤ m) × (s' z m 1 ≤ 1)) e.0
        (subst (λ j. (s' 1 1 0 ≤ j) × (s' 0 j 1 ≤ 1)) e.1 (omega arith))
