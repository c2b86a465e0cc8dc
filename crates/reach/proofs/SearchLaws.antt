-- A search step by step: what one visit finds, what several find together, and what is reached at the end.
use Rattle.std.proofs.Common.{◌≡◌, ℕ, zero, suc, ◌<◌, ◌≤◌, false, cond, eqb, ◌≢◌, ◌⊎◌, List, [], ◌∷◌, ◌++◌, length, get_or, set, replicate, sym, refl, ap, ◌∙◌, subst, inl, inr, arith, length-set, length-append, get_or-set_other, get_or-set_same}
use Rattle.std.proofs.lemmas.List.{get_or-replicate, get_or-take, get_or_past, get_or_append_left, length-replicate, length-take-le}
use Rattle.std.proofs.Math.Seq.{get_or-append_seam}
use Rattle.std.proofs.lemmas.Bool.{cases_lt, cases_eq, cases_Bool}
use Rattle.std.proofs.lemmas.Bool.Decides.{nat_tests}
use Rattle.reach.specs.Links.{places, from, to}
use Rattle.reach.specs.Paths.{Edge, Path, Marked, Reached}
use Rattle.reach.specs.Searches.{waiting, unmarked, Room, Closed, Waits, Bits, Is, Found, Search}
use Rattle.reach.specs.declared.queue.Queue.{Queue}

-- the nodes of a queue are the first of its places
pub waiting_long : (q : Queue) → length (waiting q) ≡ q.count
waiting_long q = length-take-le q.count q.nodes (omega (arith, q.room, q.long))

pub waiting_at : (q : Queue) (i : ℕ) → i < length (waiting q) → get_or q.nodes i 0 ≡ get_or (waiting q) i 0
waiting_at q i lt = sym (get_or-take q.count q.nodes i 0 (omega (arith, waiting_long q)))

-- marking node n changes no count of the nodes below it
unmarked_above : (ms : List ℕ) (n k : ℕ) → k ≤ n → unmarked (set ms n 1) k ≡ unmarked ms k
unfolding unmarked
unmarked_above ms n zero le = refl
unmarked_above ms n (suc k) le =
    let ne : k ≢ n = omega arith in
    let same = get_or-set_other ms n k 1 0 ne in
    let rest = unmarked_above ms n k (omega arith) in
    cc

abbrev blank : ℕ → ℕ
blank x = cond (eqb x 0) 1 0

pub unmarked_less : (ms : List ℕ) (n k : ℕ) → n < k → n < length ms → get_or ms n 0 ≡ 0 → suc (unmarked (set ms n 1) k) ≡ unmarked ms k
unfolding unmarked
unmarked_less ms n zero lt in' e = absurd (omega arith)
unmarked_less ms n (suc k) lt in' e = elim (cases_lt n k) [ inl small ↦ below small (unmarked_less ms n k small in' e) | inr large ↦ here (omega arith) ]
  where
    below : n < k → suc (unmarked (set ms n 1) k) ≡ unmarked ms k → suc (unmarked (set ms n 1) (suc k)) ≡ unmarked ms (suc k)
    below small rest =
        let ne : k ≢ n = omega arith in
        let same : blank (get_or (set ms n 1) k 0) ≡ blank (get_or ms k 0) = ap blank (get_or-set_other ms n k 1 0 ne) in
        omega arith

    here : k ≡ n → suc (unmarked (set ms n 1) (suc k)) ≡ unmarked ms (suc k)
    here s =
        let new : blank (get_or (set ms n 1) n 0) ≡ 0 = ap blank (get_or-set_same ms n 1 0 in') in
        let old : blank (get_or ms n 0) ≡ 1 = ap blank e in
        let rest = unmarked_above ms n n (omega arith) in
        rw s (omega arith)

-- what is marked still is, where a marked node is marked again
again : (ms : List ℕ) (n b : ℕ) → 0 < get_or ms n 0 → Marked ms b → Marked (set ms n 1) b
again ms n b was m = elim (cases_eq b n) [
  | inl e ↦ elim (cases_lt n (length ms)) [
    | inl lt ↦ rw e (omega (arith, get_or-set_same ms n 1 0 lt))
    | inr past ↦ let none = get_or_past ms n 0 past in absurd (omega (arith))
  ]
  | inr ne ↦ omega (arith, get_or-set_other ms n b 1 0 ne)
]

-- marking a marked node again changes no count
unmarked_same : (ms : List ℕ) (n k : ℕ) → 0 < get_or ms n 0 → unmarked (set ms n 1) k ≡ unmarked ms k
unfolding unmarked
unmarked_same ms n zero m = refl
unmarked_same ms n (suc k) m =
    let same : blank (get_or (set ms n 1) k 0) ≡ blank (get_or ms k 0) = elim (cases_eq k n) [
      | inl e ↦ rw e (marked_blank (get_or (set ms n 1) n 0) (again ms n n m m) ∙ sym (marked_blank (get_or ms n 0) m))
      | inr ne ↦ ap blank (get_or-set_other ms n k 1 0 ne)
    ] in
    let rest = unmarked_same ms n k m in
    omega arith
  where
    marked_blank : (x : ℕ) → 0 < x → blank x ≡ 0
    marked_blank x lt = let some : eqb x 0 ≡ false = grind (arith, nat_tests) in ap (λ b. cond b 1 0) some

-- a mark that is set is 1
set_bits : (ms : List ℕ) (n : ℕ) → Bits ms → Bits (set ms n 1)
set_bits ms n s b = elim (cases_eq b n) [
  | inl e ↦ elim (cases_lt n (length ms)) [
    | inl lt ↦ rw e (omega (arith, get_or-set_same ms n 1 0 lt))
    | inr past ↦ rw e (omega (arith, get_or_past (set ms n 1) n 0 (omega (arith, length-set ms n 1))))
  ]
  | inr ne ↦ omega (arith, get_or-set_other ms n b 1 0 ne, s b)
]

-- the queue with node n behind the others
abbrev put : List ℕ → ℕ → List ℕ
put q n = q ++ n ∷ []

pub visited : (ms q : List ℕ) (n : ℕ) → Room ms q → n < places → n < length ms → get_or ms n 0 ≡ 0
    → Found (Is n) ms (set ms n 1) q (put q n)
visited ms q n room small in' blank = record {
  room = omega (arith, unmarked_less ms n places small in' blank, room, longer);
  long = length-set ms n 1;
  marks = λ b m. elim (cases_eq b n) [ inl e ↦ rw e new | inr ne ↦ omega (arith, get_or-set_other ms n b 1 0 ne) ];
  longer = omega (arith, longer);
  nodes = λ i lt. get_or_append_left q (n ∷ []) 0 i lt;
  only = λ b m. elim (cases_eq b n) [ inl e ↦ inr (e, omega arith, (length q, omega (arith, longer), last ∙ sym e)) | inr ne ↦ inl (omega (arith, get_or-set_other ms n b 1 0 ne)) ];
  fresh = λ i ge lt. let s : i ≡ length q = omega (arith, longer) in rw s (rw last new);
  bits = set_bits ms n;
}
  where
    new : Marked (set ms n 1) n
    new = omega (arith, get_or-set_same ms n 1 0 in')

    longer : length (put q n) ≡ suc (length q)
    longer = omega (arith, length-append q (n ∷ []))

    last : get_or (put q n) (length q) 0 ≡ n
    last = get_or-append_seam q n [] 0

pub revisited : (ms q : List ℕ) (n : ℕ) → Room ms q → 0 < get_or ms n 0 → Found (Is n) ms (set ms n 1) q q
revisited ms q n room was = record {
  room = omega (arith, unmarked_same ms n places was, room);
  long = length-set ms n 1;
  marks = λ b m. again ms n b was m;
  longer = omega arith;
  nodes = λ i lt. refl;
  only = λ b m. elim (cases_eq b n) [ inl e ↦ inl (rw e was) | inr ne ↦ inl (omega (arith, get_or-set_other ms n b 1 0 ne)) ];
  fresh = λ i ge lt. absurd (omega arith);
  bits = set_bits ms n;
}

pub found_none : {P : ℕ → Type 0} (ms q : List ℕ) → Room ms q → Found P ms ms q q
found_none ms q room = record {
  room = room;
  long = refl;
  marks = λ b m. m;
  longer = omega arith;
  nodes = λ i lt. refl;
  only = λ b m. inl m;
  fresh = λ i ge lt. absurd (omega arith);
  bits = λ s. s;
}

module _ {P Q : ℕ → Type 0} {ms ms' ms'' q q' q'' : List ℕ} (sub : (b : ℕ) → Q b → P b)
    (f : Found P ms ms' q q') (g : Found Q ms' ms'' q' q'') where
  still_waits : (b : ℕ) → Waits q' b → Waits q'' b
  still_waits b (i, lt, e) = (i, omega (arith, g.longer), g.nodes i lt ∙ e)

  earlier : (b : ℕ) → Marked ms b ⊎ (P b × (b < length ms) × Waits q' b) → Marked ms b ⊎ (P b × (b < length ms) × Waits q'' b)
  earlier b (inl m) = inl m
  earlier b (inr (p, lt, w)) = inr (p, lt, still_waits b w)

  either : (b : ℕ) → Marked ms' b ⊎ (Q b × (b < length ms') × Waits q'' b) → Marked ms b ⊎ (P b × (b < length ms) × Waits q'' b)
  either b (inl m) = earlier b (f.only b m)
  either b (inr (p, lt, w)) = inr (sub b p, omega (arith, f.long), w)

  pub found_more : Found P ms ms'' q q''
  found_more = record {
    room = g.room;
    long = g.long ∙ f.long;
    marks = λ b m. g.marks b (f.marks b m);
    longer = omega (arith, f.longer, g.longer);
    nodes = λ i lt. g.nodes i (omega (arith, f.longer)) ∙ f.nodes i lt;
    only = λ b m. either b (g.only b m);
    fresh = λ i ge lt. elim (cases_lt i (length q')) [
      | inl small ↦ rw (g.nodes i small) (g.marks (get_or q' i 0) (f.fresh i ge small))
      | inr large ↦ g.fresh i large lt
    ];
    bits = λ s. g.bits (f.bits s);
  }

path_snoc : (es : List (ℕ × ℕ)) (n : ℕ) {a c : ℕ} (b : ℕ) → Path es n a c → Edge es c b → b < n → Path es n a b
path_snoc es n b (Path.one e lt) d small = Path.more e lt (Path.one d small)
path_snoc es n b (Path.more e lt p) d small = Path.more e lt (path_snoc es n b p d small)

-- every path leads to a node of the graph
pub path_inside : (es : List (ℕ × ℕ)) (n : ℕ) {a b : ℕ} → ((k : ℕ) → k < length es → to es k < places) → Path es n a b → b < places
path_inside es n within (Path.one e lt) = omega (arith, within e.place e.inside, e.leads)
path_inside es n within (Path.more e lt p) = path_inside es n within p

-- c is a, or a path leads there
abbrev pub From : List (ℕ × ℕ) → ℕ → ℕ → ℕ → Type 0
From es n a c = (c ≡ a) ⊎ Path es n a c

from_step : (es : List (ℕ × ℕ)) (n a c b : ℕ) → From es n a c → Edge es c b → b < n → Path es n a b
from_step es n a c b (inl e) d small = Path.one (subst (λ x. Edge es x b) e d) small
from_step es n a c b (inr p) d small = path_snoc es n b p d small

module _ (es : List (ℕ × ℕ)) (a c : ℕ) {ms ms' q q' : List ℕ} (s : Search es a ms q) (h : From es (length ms) a c)
    (f : Found (Edge es c) ms ms' q q') where
  sound : (b : ℕ) → Marked ms b ⊎ (Edge es c b × (b < length ms) × Waits q' b) → Path es (length ms) a b
  sound b (inl m) = s.sound b m
  sound b (inr (d, lt, w)) = from_step es (length ms) a c b h d lt

  waits : (b : ℕ) → Marked ms b ⊎ (Edge es c b × (b < length ms) × Waits q' b) → Waits q' b
  waits b (inl m) = let (i, lt, e) = s.waits b m in (i, omega (arith, f.longer), f.nodes i lt ∙ e)
  waits b (inr (d, lt, w)) = w

  pub search_more : Search es a ms' q'
  search_more = record {
    room = f.room;
    sound = λ b m. subst (λ n. Path es n a b) (sym f.long) (sound b (f.only b m));
    waits = λ b m. waits b (f.only b m);
    marked = λ i lt. elim (cases_lt i (length q)) [
      | inl small ↦ rw (f.nodes i small) (f.marks (get_or q i 0) (s.marked i small))
      | inr large ↦ f.fresh i large lt
    ];
    bits = f.bits s.bits;
  }

  -- what was closed still is
  pub closed_more : (x : ℕ) → Closed es ms x → Closed es ms' x
  closed_more x cl b e lt = f.marks b (cl b e (omega (arith, f.long)))

-- a search is over when the edges from the start and from each node of the queue lead to marked nodes
module _ (es : List (ℕ × ℕ)) (a : ℕ) (ms q : List ℕ) (s : Search es a ms q)
    (closed : (i : ℕ) → i < length q → Closed es ms (get_or q i 0)) where
  follow : {b : ℕ} (x : ℕ) → Closed es ms x → Path es (length ms) x b → Marked ms b
  follow x cl (Path.one e lt) = cl _ e lt
  follow x cl (Path.more {b = y} e lt p) = let (i, in', eq) = s.waits y (cl y e lt) in follow y (subst (Closed es ms) eq (closed i in')) p

  pub all_reached : Closed es ms a → Reached es a ms
  all_reached first = record { sound = s.sound; complete = λ b p. follow a first p }

unmarked_most : (ms : List ℕ) (k : ℕ) → unmarked ms k ≤ k
unfolding unmarked
unmarked_most ms zero = omega arith
unmarked_most ms (suc k) = let rest = unmarked_most ms k in elim (cases_Bool (eqb (get_or ms k 0) 0)) [ inl e ↦ rw e (omega arith) | inr e ↦ rw e (omega arith) ]

-- nothing is marked where every mark is 0
pub none_marked : (n b : ℕ) → Marked (replicate n 0) b → ⊥
none_marked n b m = elim (cases_lt b n) [
  | inl lt ↦ omega (arith, get_or-replicate {A = ℕ} n b 0 0 lt)
  | inr ge ↦ omega (arith, get_or_past (replicate {A = ℕ} n 0) b 0 (omega (arith, length-replicate {A = ℕ} n 0)))
]

clear_bits : (ms : List ℕ) → ((b : ℕ) → Marked ms b → ⊥) → Bits ms
clear_bits ms none b = elim (cases_lt 0 (get_or ms b 0)) [ inl m ↦ absurd (none b m) | inr ge ↦ omega arith ]

pub search_none : (es : List (ℕ × ℕ)) (a : ℕ) (ms q : List ℕ) → ((b : ℕ) → Marked ms b → ⊥) → length q ≡ 0 → Search es a ms q
search_none es a ms q none empty = record {
  room = omega (arith, unmarked_most ms places);
  sound = λ b m. absurd (none b m);
  waits = λ b m. absurd (none b m);
  marked = λ i lt. absurd (omega arith);
  bits = clear_bits ms none;
}

-- no path leads from a node past the last
pub path_from_inside : (es : List (ℕ × ℕ)) (n : ℕ) {a b : ℕ} → ((k : ℕ) → k < length es → from es k < places) → Path es n a b → a < places
path_from_inside es n within (Path.one e lt) = omega (arith, within e.place e.inside, e.leaves)
path_from_inside es n within (Path.more e lt p) = omega (arith, within e.place e.inside, e.leaves)
