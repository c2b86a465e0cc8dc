-- Where the drafts of no drawer outnumber its free places, each put of a commit finds a free place.
use Rattle.std.proofs.Common.{◌≡◌, ℕ, zero, suc, pred, ◌+◌, ◌-◌, ◌<◌, ◌≤◌, Bool, true, false, cond, ◌||◌, eqb, ltb, ◌⊎◌, List, [], ◌∷◌, is_ok, Ok, sym, refl, ap, ◌∙◌, subst, inl, inr, arith}
use Rattle.std.proofs.lemmas.Bool.{cases_eq, both_ways, cond-true, cond-false, ltb-false, lt-ltb, eq-eqb, ne_eqb, eqb-true, or_cases, or_parts}
use Rattle.stamps.specs.Counts.{countable}
use Rattle.stamps.specs.declared.value.Value.{Value}
use Rattle.shelf.specs.Meaning.{Meaning}
use Rattle.shelf.specs.Sound.{Sound}
use Rattle.shelf.specs.Putting.{put_answer, after_put, made_version, added}
use Rattle.isolation.specs.Account.{Draft, drafted}
use Rattle.transactions.specs.State.{Open}
use Rattle.transactions.specs.Committing.{in_drawer, crowded_by, crowded, new_version, put_cards}

-- puts change neither cards, width nor drawers
pub puts_cards : (m : Meaning) (o : Open) (n : ℕ) → (put_cards m o n).cards ≡ m.cards
puts_cards m o zero = refl
puts_cards m o (suc n) = go (drafted o.drafts n) (puts_cards m o n)
  where
    go : (b : Bool) → (put_cards m o n).cards ≡ m.cards
        → (cond b (added (put_cards m o n) n (new_version m o n)) (put_cards m o n)).cards ≡ m.cards
    go true e = e
    go false e = e

pub puts_width : (m : Meaning) (o : Open) (n : ℕ) → (put_cards m o n).width ≡ m.width
puts_width m o zero = refl
puts_width m o (suc n) = go (drafted o.drafts n) (puts_width m o n)
  where
    go : (b : Bool) → (put_cards m o n).width ≡ m.width
        → (cond b (added (put_cards m o n) n (new_version m o n)) (put_cards m o n)).width ≡ m.width
    go true e = e
    go false e = e

pub puts_shares : (m : Meaning) (o : Open) (n : ℕ) → (put_cards m o n).shares ≡ m.shares
puts_shares m o zero = refl
puts_shares m o (suc n) = go (drafted o.drafts n) (puts_shares m o n)
  where
    go : (b : Bool) → (put_cards m o n).shares ≡ m.shares
        → (cond b (added (put_cards m o n) n (new_version m o n)) (put_cards m o n)).shares ≡ m.shares
    go true e = e
    go false e = e

-- how many of the drafted cards below n share the drawer of card c
abbrev sharing : Meaning → List Draft → (c n : ℕ) → ℕ
sharing m ds c zero = 0
sharing m ds c (suc n) = cond (drafted ds n) (cond (m.shares n c) 1 0) 0 + sharing m ds c n

one_less : (p f s : ℕ) → p ≡ f - s → pred p ≡ f - (1 + s)
one_less p f s e = omega arith

none_less : (p f s : ℕ) → p ≡ f - s → p ≡ f - (0 + s)
none_less p f s e = omega arith

puts_free : (m : Meaning) (o : Open) (c n : ℕ) → (put_cards m o n).free c ≡ m.free c - sharing m o.drafts c n
puts_free m o c zero = omega arith
puts_free m o c (suc n) = go (drafted o.drafts n) (puts_free m o c n)
  where
    here : (b : Bool) → (put_cards m o n).free c ≡ m.free c - sharing m o.drafts c n
        → cond b (pred ((put_cards m o n).free c)) ((put_cards m o n).free c) ≡ m.free c - (cond b 1 0 + sharing m o.drafts c n)
    here true e = one_less ((put_cards m o n).free c) (m.free c) (sharing m o.drafts c n) e
    here false e = none_less ((put_cards m o n).free c) (m.free c) (sharing m o.drafts c n) e

    go : (b : Bool) → (put_cards m o n).free c ≡ m.free c - sharing m o.drafts c n
        → (cond b (added (put_cards m o n) n (new_version m o n)) (put_cards m o n)).free c
        ≡ m.free c - (cond b (cond (m.shares n c) 1 0) 0 + sharing m o.drafts c n)
    go true e =
        subst (λ (f : ℕ → ℕ → Bool). cond (f n c) (pred ((put_cards m o n).free c)) ((put_cards m o n).free c)
        ≡ m.free c - (cond (m.shares n c) 1 0 + sharing m o.drafts c n))
        (sym (puts_shares m o n)) (here (m.shares n c) e)
    go false e = none_less ((put_cards m o n).free c) (m.free c) (sharing m o.drafts c n) e

-- the same count of one card d alone
abbrev sharing_one : Meaning → (d c n : ℕ) → ℕ
sharing_one m d c zero = 0
sharing_one m d c (suc n) = cond (eqb d n) (cond {A = ℕ} (m.shares n c) 1 0) 0 + sharing_one m d c n

sharing_none : (m : Meaning) (d c n : ℕ) → n ≤ d → sharing_one m d c n ≡ 0
sharing_none m d c zero le = refl
sharing_none m d c (suc n) le =
    let e : cond {A = ℕ} (eqb d n) (cond {A = ℕ} (m.shares n c) 1 0) 0 ≡ 0 = cond-false (eqb d n) (cond {A = ℕ} (m.shares n c) 1 0) 0 (ne_eqb d n (omega arith)) in
    omega (arith, sharing_none m d c n (omega arith))

sharing_once : (m : Meaning) (d c n : ℕ) → sharing_one m d c n ≤ cond {A = ℕ} (m.shares d c) 1 0
sharing_once m d c zero = omega arith
sharing_once m d c (suc n) = go (cases_eq d n) (sharing_once m d c n)
  where
    go : (d ≡ n) ⊎ (d ≡ n → ⊥) → sharing_one m d c n ≤ cond {A = ℕ} (m.shares d c) 1 0 → sharing_one m d c (suc n) ≤ cond {A = ℕ} (m.shares d c) 1 0
    go (inl e) le =
        let q : cond {A = ℕ} (eqb d n) (cond {A = ℕ} (m.shares n c) 1 0) 0 ≡ cond {A = ℕ} (m.shares n c) 1 0
        = cond-true (eqb d n) (cond {A = ℕ} (m.shares n c) 1 0) 0 (eq-eqb d n e) in
        let z : cond {A = ℕ} (m.shares d c) 1 0 ≡ cond {A = ℕ} (m.shares n c) 1 0 = ap (λ x. cond {A = ℕ} (m.shares x c) 1 0) e in
        omega (arith, sharing_none m d c n (omega arith))
    go (inr ne) le =
        let q : cond {A = ℕ} (eqb d n) (cond {A = ℕ} (m.shares n c) 1 0) 0 ≡ 0
        = cond-false (eqb d n) (cond {A = ℕ} (m.shares n c) 1 0) 0 (ne_eqb d n ne) in
        omega arith

sharing_parts : (m : Meaning) (d : Draft) (ds : List Draft) (c n : ℕ)
    → sharing m (d ∷ ds) c n ≤ sharing_one m d.card c n + sharing m ds c n
sharing_parts m d ds c zero = omega arith
sharing_parts m d ds c (suc n) = go (eqb d.card n) (drafted ds n) (cond {A = ℕ} (m.shares n c) 1 0) (sharing_parts m d ds c n)
  where
    go : (p q : Bool) (w : ℕ) → sharing m (d ∷ ds) c n ≤ sharing_one m d.card c n + sharing m ds c n
        → cond (p || q) w 0 + sharing m (d ∷ ds) c n ≤ (cond p w 0 + sharing_one m d.card c n) + (cond q w 0 + sharing m ds c n)
    go true true w le = let h : w + sharing m (d ∷ ds) c n ≤ (w + sharing_one m d.card c n) + (w + sharing m ds c n) = omega arith in h
    go true false w le = let h : w + sharing m (d ∷ ds) c n ≤ (w + sharing_one m d.card c n) + (0 + sharing m ds c n) = omega arith in h
    go false true w le = let h : w + sharing m (d ∷ ds) c n ≤ (0 + sharing_one m d.card c n) + (w + sharing m ds c n) = omega arith in h
    go false false w le = let h : 0 + sharing m (d ∷ ds) c n ≤ (0 + sharing_one m d.card c n) + (0 + sharing m ds c n) = omega arith in h

-- the drafted cards that share a drawer are no more than the drafts in it
sharing_drawer : (m : Meaning) → Sound m → (ds : List Draft) (c n : ℕ) → sharing m ds c n ≤ in_drawer m c ds
sharing_drawer m s [] c zero = omega arith
sharing_drawer m s [] c (suc n) = let h : 0 + sharing m [] c n ≤ 0 = omega (arith, sharing_drawer m s [] c n) in h
sharing_drawer m s (d ∷ ds) c n =
    omega (
      arith,
      sharing_parts m d ds c n,
      sharing_once m d.card c n,
      sharing_drawer m s ds c n,
      back (m.shares d.card c) (m.shares c d.card) (λ e. s.shares_back d.card c e),
    )
  where
    back : (p q : Bool) → (p ≡ true → q ≡ true) → cond {A = ℕ} p 1 0 ≤ cond {A = ℕ} q 1 0
    back true true f = let h : ◌≤◌ 1 1 = omega arith in h
    back true false f = absurd (both_ways false refl (f refl))
    back false true f = let h : ◌≤◌ 0 1 = omega arith in h
    back false false f = let h : ◌≤◌ 0 0 = omega arith in h

-- a drafted card's drawer has as many free places as drafts
uncrowded_by : (m : Meaning) (ds all : List Draft) (x : ℕ) → crowded_by m ds all ≡ false → drafted ds x ≡ true → in_drawer m x all ≤ m.free x
uncrowded_by m [] all x e d = absurd (both_ways false refl d)
uncrowded_by m (d ∷ ds) all x e t =
    go (or_cases (eqb d.card x) (drafted ds x) t) (or_parts (ltb (m.free d.card) (in_drawer m d.card all)) (crowded_by m ds all) e)
    (λ q h. uncrowded_by m ds all x q h)
  where
    go : (eqb d.card x ≡ true) ⊎ (drafted ds x ≡ true)
        → (ltb (m.free d.card) (in_drawer m d.card all) ≡ false) × (crowded_by m ds all ≡ false)
        → (crowded_by m ds all ≡ false → drafted ds x ≡ true → in_drawer m x all ≤ m.free x) → in_drawer m x all ≤ m.free x
    go (inl q) h more =
        subst (λ y. in_drawer m y all ≤ m.free y) (eqb-true d.card x q) (ltb-false (m.free d.card) (in_drawer m d.card all) h.0)
    go (inr q) h more = more h.1 q

pub uncrowded : (m : Meaning) (ds : List Draft) (x : ℕ) → crowded m ds ≡ false → drafted ds x ≡ true → in_drawer m x ds ≤ m.free x
uncrowded m ds x e d = uncrowded_by m ds ds x e d

-- a drafted card is one of the drafts in its drawer, beside those below it
drawer_above : (m : Meaning) → Sound m → (ds : List Draft) (x : ℕ) → x < m.cards → drafted ds x ≡ true → suc (sharing m ds x x) ≤ in_drawer m x ds
drawer_above m s ds x lx d =
    let e : cond {A = ℕ} (drafted ds x) (cond {A = ℕ} (m.shares x x) 1 0) 0 ≡ cond {A = ℕ} (m.shares x x) 1 0 = cond-true (drafted ds x) (cond {A = ℕ} (m.shares x x) 1 0) 0 d in
    let q : cond {A = ℕ} (m.shares x x) 1 0 ≡ 1 = cond-true (m.shares x x) 1 0 (s.shares_itself x lx) in
    omega (arith, sharing_drawer m s ds x (suc x))

-- so the drawer of a drafted card has a free place, before the commit and when its put comes
pub drafted_room : (m : Meaning) → Sound m → (ds : List Draft) (x : ℕ) → x < m.cards → crowded m ds ≡ false → drafted ds x ≡ true → 0 < m.free x
drafted_room m s ds x lx e d = omega (arith, uncrowded m ds x e d, drawer_above m s ds x lx d)

pub put_room : (m : Meaning) → Sound m → (o : Open) (x : ℕ) → x < m.cards → crowded m o.drafts ≡ false → drafted o.drafts x ≡ true
    → 0 < (put_cards m o x).free x
put_room m s o x lx e d = omega (arith, puts_free m o x x, uncrowded m o.drafts x e d, drawer_above m s o.drafts x lx d)

pub put_granted : (m : Meaning) → Sound m → (o : Open) (x : ℕ) (xs : List ℕ) → x < m.cards → crowded m o.drafts ≡ false
    → drafted o.drafts x ≡ true → countable m.width xs ≡ true → put_answer (put_cards m o x) x xs ≡ Ok tt
put_granted m s o x xs lx e d c =
    cond-true (ltb x (put_cards m o x).cards) _ _ (subst (λ n. ltb x n ≡ true) (sym (puts_cards m o x)) (lt-ltb x m.cards lx))
    ∙ cond-true (countable (put_cards m o x).width xs) _ _ (subst (λ w. countable w xs ≡ true) (sym (puts_width m o x)) c)
    ∙ cond-true (ltb 0 ((put_cards m o x).free x)) _ _ (lt-ltb 0 ((put_cards m o x).free x) (put_room m s o x lx e d))

pub put_added : (m : Meaning) → Sound m → (o : Open) (x : ℕ) (v : Value) (w : ℕ) (xs : List ℕ) → x < m.cards → crowded m o.drafts ≡ false
    → drafted o.drafts x ≡ true → countable m.width xs ≡ true
    → after_put (put_cards m o x) x v w xs ≡ added (put_cards m o x) x (made_version v w xs)
put_added m s o x v w xs lx e d c =
    cond-true (is_ok (put_answer (put_cards m o x) x xs)) (added (put_cards m o x) x (made_version v w xs)) (put_cards m o x)
    (ap is_ok (put_granted m s o x xs lx e d c))

-- the next card, whether drafted or not
pub put_next : (m : Meaning) (o : Open) (x : ℕ) → drafted o.drafts x ≡ true → put_cards m o (suc x) ≡ added (put_cards m o x) x (new_version m o x)
put_next m o x d = cond-true (drafted o.drafts x) (added (put_cards m o x) x (new_version m o x)) (put_cards m o x) d

pub put_skips : (m : Meaning) (o : Open) (x : ℕ) → drafted o.drafts x ≡ false → put_cards m o (suc x) ≡ put_cards m o x
put_skips m o x d = cond-false (drafted o.drafts x) (added (put_cards m o x) x (new_version m o x)) (put_cards m o x) d
