-- Walks over the entries of one owner, and over the WRITs of one card.
use Rattle.std.proofs.Common.{◌≡◌, ℕ, zero, suc, ◌%◌, ◌<◌, ◌≤◌, Bool, true, false, cond, not, ◌&&◌, eqb, ltb, Option, List, length, sym, refl, ap, ◌∙◌, inl, inr, arith}
use Rattle.std.proofs.lemmas.Bool.{cases_Bool, cases_lt, and_parts, eqb-true, ltb-true, both_ways}
use Rattle.rules.specs.Rules.{is_read, is_writ}
use Rattle.digest.specs.declared.entry.Entry.{Entry}
use Rattle.digest.specs.Entries.{at, newer, rivals, Sound}
use Rattle.digest.proofs.LinkLaws.{NoneFrom, Only}
use Rattle.answers.specs.Questions.{some_below, marked, apart, outdated, clashes, own_node, writ_node}

pub none_at_all : (p : ℕ → Bool) (n : ℕ) → NoneFrom p 0 n → some_below p n ≡ false
unfolding some_below
none_at_all p zero h = refl
none_at_all p (suc n) h = rw (h n (omega arith) (omega arith)) (none_at_all p n (λ k le lt. h k le (omega arith)))

-- a WRIT of card x is linked under its node
pub writ_under : (e : Entry) (x : ℕ) → is_writ e.kind ≡ true → e.card.0 ≡ x → writ_node e ≡ x % 2048
writ_under e x k c = ap (λ b. cond b (e.card.0 % 2048) 2047) k ∙ ap (λ n. n % 2048) c

pub only_newer : (es : List Entry) (ms : List ℕ) (r : Entry)
    → Only writ_node es (length es) (λ j. newer (at es j) r && marked ms (at es j).owner) (r.card.0 % 2048)
only_newer es ms r = λ k lt h.
    let new = (and_parts (newer (at es k) r) (marked ms (at es k).owner) h).0 in
    let front = (and_parts (is_writ (at es k).kind && eqb (at es k).card.0 r.card.0) (ltb r.version (at es k).version) new).0 in
    let (w, c) = and_parts (is_writ (at es k).kind) (eqb (at es k).card.0 r.card.0) front in
    writ_under (at es k) r.card.0 w (eqb-true _ _ c)

pub only_rivals : (es : List Entry) (ds : List (Option ℕ)) (fs bs : List ℕ) (e : Entry) → is_writ e.kind ≡ true
    → Only writ_node es (length es) (λ j. rivals e (at es j) && apart ds fs bs (at es j).owner) (writ_node e)
only_rivals es ds fs bs e writ = λ k lt h.
    let riv = (and_parts (rivals e (at es k)) (apart ds fs bs (at es k).owner) h).0 in
    let kc = (and_parts (is_writ e.kind && is_writ (at es k).kind && eqb e.card.0 (at es k).card.0) (not (eqb e.owner (at es k).owner)) riv).0 in
    let (kk, c) = and_parts (is_writ e.kind && is_writ (at es k).kind) (eqb e.card.0 (at es k).card.0) kc in
    writ_under (at es k) e.card.0 (and_parts (is_writ e.kind) (is_writ (at es k).kind) kk).1 (sym (eqb-true _ _ c)) ∙ sym (writ_under e e.card.0 writ refl)

pub only_own_reads : (es : List Entry) (ms : List ℕ) (o : ℕ)
    → Only own_node es (length es) (λ i. is_read (at es i).kind && eqb (at es i).owner o && outdated es ms (at es i)) o
only_own_reads es ms o = λ k lt h.
    let front = (and_parts (is_read (at es k).kind && eqb (at es k).owner o) (outdated es ms (at es k)) h).0 in
    eqb-true _ _ (and_parts (is_read (at es k).kind) (eqb (at es k).owner o) front).1

pub only_own_writs : (es : List Entry) (ds : List (Option ℕ)) (fs bs : List ℕ) (o : ℕ)
    → Only own_node es (length es) (λ i. is_writ (at es i).kind && eqb (at es i).owner o && clashes es ds fs bs i) o
only_own_writs es ds fs bs o = λ k lt h.
    let front = (and_parts (is_writ (at es k).kind && eqb (at es k).owner o) (clashes es ds fs bs k) h).0 in
    eqb-true _ _ (and_parts (is_writ (at es k).kind) (eqb (at es k).owner o) front).1

-- a WRIT at or before the place of the version read is not newer
not_newer : (es : List Entry) → Sound es → (r : Entry) (j : ℕ) → j < length es → j < r.version → newer (at es j) r ≡ false
not_newer es s r j lt old = elim (cases_Bool (newer (at es j) r)) [
  | inl h ↦
      let (front, v) = and_parts (is_writ (at es j).kind && eqb (at es j).card.0 r.card.0) (ltb r.version (at es j).version) h in
      let w = s.writ j lt (and_parts (is_writ (at es j).kind) (eqb (at es j).card.0 r.card.0) front).0 in
      absurd (omega (arith, ltb-true _ _ v))
  | inr h ↦ h
]

-- so the walk may stop there
pub none_older_than : (es : List Entry) → Sound es → (ms : List ℕ) (r : Entry) (link : ℕ) → link ≤ r.version
    → NoneFrom (λ j. newer (at es j) r && marked ms (at es j).owner) link (length es)
    → NoneFrom (λ j. newer (at es j) r && marked ms (at es j).owner) 0 (length es)
none_older_than es s ms r link le above = λ k ge lt. elim (cases_Bool (newer (at es k) r)) [
  | inl h ↦ elim (cases_lt k link) [
    | inl below ↦ absurd (both_ways _ (not_newer es s r k lt (omega arith)) h)
    | inr past ↦ above k past lt
  ]
  | inr h ↦ ap (λ b. b && marked ms (at es k).owner) h
]
