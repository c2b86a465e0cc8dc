-- The accounts that show why the rules are as they are.
use Rattle.std.proofs.Common.{◌≡◌, ℕ, ◌<◌, ◌≤◌, ◌⊎◌, sym, refl, subst, inl, inr, arith}
use Rattle.std.proofs.lemmas.Bool.{cases_eq}
use Rattle.isolation.specs.History.{ReadsFrom}
use Rattle.isolation.specs.History.Depends.{one}
use Rattle.stamps.specs.Blank.{blank}
use Rattle.isolation.specs.Account.{Account, fresh, after_open, after_read, after_draft, after_commit}
use Rattle.isolation.specs.AccountHistory.{Reads, Writes, history}
use Rattle.isolation.specs.Vectors.{Stamps}
use Rattle.isolation.specs.Lawful.{Lawful, Current, Extends, new_entry}
use Rattle.isolation.specs.Reasons.{LetsThrough, NewHalf, OldHalf, EachHalfIsNeeded, FrozenIsOlder}
use Rattle.isolation.proofs.Steps.{fresh_lawful, open_lawful, draft_lawful}
use Rattle.isolation.proofs.ReadLaw.{read_lawful}
use Rattle.isolation.proofs.CommitLaw.{commit_lawful}
use Rattle.isolation.proofs.Theorems.{current}

-- a property of the numbers below two
pub below_two : (P : ℕ → Type 0) → P 0 → P 1 → (y : ℕ) → y < 2 → P y
below_two P p q y lt = go (cases_eq y 0)
  where
    go : (y ≡ 0) ⊎ (y ≡ 0 → ⊥) → P y
    go (inl e) = subst P (sym e) p
    go (inr ne) = let e : 1 ≡ y = omega arith in subst P e q

-- t reads from u, by version k of card x
pub from : (a : Account) (t u x k : ℕ) → Reads a t x k → Writes a u x k → ReadsFrom (history a) t u
from a t u x k r w = record { card = x; version = k; read = r; wrote = w }

-- every entry of a stamp is its version's number
level : Stamps
level x k y = k

-- transaction 1 reads both of two cards
abbrev first_read_one : Account
first_read_one = after_read (after_open (fresh 2)) 1 0 0

first_read_one_lawful : Lawful first_read_one level
unfolding level
first_read_one_lawful =
    let l = open_lawful (fresh 2) level (fresh_lawful 2 level (λ x y lx ly. refl)) in
    read_lawful (after_open (fresh 2)) level l 1 0 0 refl (omega arith) (omega arith) (λ e y m r. absurd r)

abbrev read_both : Account
read_both = after_read first_read_one 1 1 0

read_both_lawful : Lawful read_both level
unfolding level
read_both_lawful =
    read_lawful first_read_one level first_read_one_lawful 1 1 0 refl (omega arith) (omega arith) (λ e. second)
  where
    second : (y m : ℕ) → ((0 ≡ y) × (0 ≡ m)) ⊎ ⊥ → (0 ≤ m) × (m ≤ 0)
    second y m (inl e) = omega arith
    second y m (inr e) = absurd e

-- drafts both
abbrev drafted_both : Account
drafted_both = after_draft (after_draft read_both 1 0 blank) 1 1 blank

drafted_both_lawful : Lawful drafted_both level
unfolding level
drafted_both_lawful =
    let l = draft_lawful read_both level 1 0 blank read_both_lawful (0, inl (refl, refl)) in
    draft_lawful (after_draft read_both 1 0 blank) level 1 1 blank l (0, inr (inl (refl, refl)))

-- then commits, and transaction 2 opens
abbrev written_both : Account
written_both = after_open (after_commit drafted_both 1)

written_both_lawful : Lawful written_both level
unfolding level
written_both_lawful =
    let stands = current drafted_both drafted_both_lawful.kept 1 (λ b. omega (arith, b.newer)) in
    let l = commit_lawful drafted_both level drafted_both_lawful 1 refl stands level extends in
    open_lawful (after_commit drafted_both 1) level l
  where
    extends : Extends drafted_both level 1 level
    extends = record {
      old = λ x k y lx le ly. refl;
      new = λ x y d ly. below_two (λ z. 1 ≡ new_entry drafted_both level 1 z) refl refl y ly;
    }

-- 2 reads card 0 at n
abbrev read_one : ℕ → Account
read_one n = after_read written_both 2 0 n

read_one_lawful : (n : ℕ) → n ≤ 1 → Lawful (read_one n) level
unfolding level
read_one_lawful n le =
    read_lawful written_both level written_both_lawful 2 0 n refl (omega arith) le (λ e y m r. absurd r)

-- 2 read card 0 at 1, and version 0 of card 1 passes the first half of the test
new_half : LetsThrough NewHalf
unfolding level
new_half = record {
  account = read_one 1;
  stamps = level;
  reader = 2;
  card = 1;
  version = 0;
  lawful = read_one_lawful 1 (omega arith);
  may_read = record { is_open = refl; is_listed = omega arith; is_first = refl };
  exists = omega arith;
  passes = λ y m r. omega arith;
  breaks = λ c.
      let d = one (from (after_read (read_one 1) 2 1 0) 2 1 0 1 (inl (refl, refl)) (omega arith, omega arith, refl)) in
      let le = c 1 1 0 1 (inr (inl (refl, refl))) d (omega arith, omega arith, refl) in
      omega arith;
}

-- 2 read card 0 at 0, and version 1 of card 1 passes the second half
old_half : LetsThrough OldHalf
unfolding level
old_half = record {
  account = read_one 0;
  stamps = level;
  reader = 2;
  card = 1;
  version = 1;
  lawful = read_one_lawful 0 (omega arith);
  may_read = record { is_open = refl; is_listed = omega arith; is_first = refl };
  exists = omega arith;
  passes = passes;
  breaks = λ c.
      let d = one (from (after_read (read_one 0) 2 1 1) 2 1 1 1 (inr (inl (refl, refl))) (omega arith, omega arith, refl)) in
      let le = c 1 0 0 1 (inl (refl, refl)) d (omega arith, omega arith, refl) in
      omega arith;
}
  where
    passes : (y m : ℕ) → ((0 ≡ y) × (0 ≡ m)) ⊎ ⊥ → m ≤ 1
    passes y m (inl e) = omega arith
    passes y m (inr e) = absurd e

pub each_half_is_needed : EachHalfIsNeeded
each_half_is_needed = (new_half, old_half)

-- transaction 1 is open on one card that nobody wrote; then 2 reads and drafts it
abbrev other_read : Account
other_read = after_read (after_open (after_open (fresh 1))) 2 0 0

other_read_lawful : Lawful other_read level
unfolding level
other_read_lawful =
    let l = open_lawful (fresh 1) level (fresh_lawful 1 level (λ x y lx ly. refl)) in
    let l2 = open_lawful (after_open (fresh 1)) level l in
    read_lawful (after_open (after_open (fresh 1))) level l2 2 0 0 refl (omega arith) (omega arith) (λ e y m r. absurd r)

abbrev other_drafted : Account
other_drafted = after_draft other_read 2 0 blank

other_drafted_lawful : Lawful other_drafted level
unfolding level
other_drafted_lawful = draft_lawful other_read level 2 0 blank other_read_lawful (0, inl (refl, refl))

pub frozen_is_older : FrozenIsOlder
unfolding level
frozen_is_older = record {
  before = fresh 1;
  stamps = level;
  card = 0;
  value = blank;
  version = 1;
  lawful = commit_lawful other_drafted level other_drafted_lawful 2 refl stands level extends;
  may_read = record { is_open = refl; is_listed = omega arith; is_first = refl };
  answer = record { exists = omega arith; fits = λ y m r. absurd r; newest = λ m lt le f. omega arith };
  newer = omega arith;
}
  where
    stands : Current other_drafted 2
    stands = current other_drafted other_drafted_lawful.kept 2 (λ b. omega (arith, b.newer))

    extends : Extends other_drafted level 2 level
    extends = record {
      old = λ x k y lx le ly. refl;
      new = λ x y d ly. let e : 0 ≡ y = omega arith in subst (λ z. 1 ≡ new_entry other_drafted level 2 z) e refl;
    }
