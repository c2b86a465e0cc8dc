-- What stands in the tables of open transactions. Assumes nothing.
use Rattle.std.proofs.Common.{◌≡◌, ℕ, zero, suc, ◌+◌, ◌*◌, ◌<◌, ◌≤◌, true, false, leb, List, [], ◌∷◌, length, get_or, take, set, is_some, Some, None, vec_items, vec_len, Option, MatchOption, unwrap_or, sym, refl, ap, ◌∙◌, ⊎_elim, arith}
use Rattle.std.specs.List.{slice_get}
use Rattle.std.proofs.lemmas.List.{length-take-le, get_or-take, get_or_read}
use Rattle.std.proofs.lemmas.Bool.{and_parts, leb-true, cases_lt}
use Rattle.std.proofs.lemmas.Option.{slice_get_past}
use Rattle.transactions.specs.State.{Open, standing}
use Rattle.entries.specs.declared.entries.Taken.{Taken}
use Rattle.tables.specs.declared.table.OpenTable.{OpenTable}
use Rattle.tables.specs.Rows.{stands, few, neat, kept_at}
use Rattle.tables.specs.Tables.{list_of, at, entry_at, taken, nobody}
use Rattle.tables.proofs.Each.{length_each, nth_each}
use Rattle.tables.proofs.Rows.{rows_apart}

pub length_list : (t : OpenTable) → length (list_of t) ≡ t.used
length_list t =
    length_each (stands t.reads.width (vec_items t.reads.items) (vec_items t.drafts.items)) 0 (take t.used (vec_items t.places))
    ∙ length-take-le t.used (vec_items t.places) (omega (arith, t.listed, t.places.ok.0))

abbrev pub stands_in : OpenTable → ℕ → Option Taken → Option Open
stands_in t p e = stands t.reads.width (vec_items t.reads.items) (vec_items t.drafts.items) p e

pub nth_list : (t : OpenTable) (p : ℕ) → p < t.used → slice_get (list_of t) p ≡ Some (stands_in t p (entry_at t p))
nth_list t p h =
    let ps = take t.used (vec_items t.places) in
    let n = length-take-le t.used (vec_items t.places) (omega (arith, t.listed, t.places.ok.0)) in
    let e : 0 + p ≡ p = omega arith in
    nth_each (stands t.reads.width (vec_items t.reads.items) (vec_items t.drafts.items)) 0 p ps None (omega (arith, n))
    ∙ ap (λ j. Some (stands_in t j (get_or ps p None))) e
    ∙ ap (λ x. Some (stands_in t p x)) (get_or-take t.used (vec_items t.places) p None h)

-- the places in use have rows
pub reads_end : (t : OpenTable) (p n : ℕ) → p < t.used → n ≤ t.reads.width → p * t.reads.width + n ≤ vec_len t.reads.items
reads_end t p n h few = omega (arith, t.read, rows_apart t.reads.width t.used p h)

pub drafts_end : (t : OpenTable) (p n : ℕ) → p < t.used → n ≤ 32 → p * 32 + n ≤ vec_len t.drafts.items
drafts_end t p n h few = omega (arith, t.drafted)

pub at_open : (t : OpenTable) (p : ℕ) (k : Taken) → p < t.used → entry_at t p ≡ Some k →
    slice_get (list_of t) p ≡ Some (stands_in t p (Some k))
at_open t p k h e = nth_list t p h ∙ ap (λ x. Some (stands_in t p x)) e

pub at_is : (t : OpenTable) (p : ℕ) (k : Taken) → p < t.used → entry_at t p ≡ Some k →
    Some (at (list_of t) p) ≡ stands_in t p (Some k)
at_is t p k h e = ap (λ o. Some (unwrap_or (standing o) nobody)) (at_open t p k h e)

pub past_untaken : (t : OpenTable) (p : ℕ) → t.used ≤ p → taken (list_of t) p ≡ false
past_untaken t p h = ap (λ o. is_some (standing o)) (slice_get_past (list_of t) p (omega (arith, length_list t)))

-- a taken place is in use
pub taken_low : (t : OpenTable) (p : ℕ) → taken (list_of t) p ≡ true → p < t.used
taken_low t p h =
    ⊎_elim
    (λ (low : p < t.used). low)
    (λ (high : t.used ≤ p).
    let none : taken (list_of t) p ≡ false = past_untaken t p high in
    let z : ◌≡◌ {A = ℕ} 0 1 = cc in absurd (omega arith))
    (cases_lt p t.used)

pub free_untaken : (t : OpenTable) (p : ℕ) → p < t.used → entry_at t p ≡ None → taken (list_of t) p ≡ false
free_untaken t p h e = ap (λ o. is_some (standing o)) (nth_list t p h ∙ ap (λ x. Some (stands_in t p x)) e)

pub taken_open : (t : OpenTable) (p : ℕ) → taken (list_of t) p ≡ true → entry_at t p ≡ None → ⊥
taken_open t p h e =
    let none : taken (list_of t) p ≡ false = free_untaken t p (taken_low t p h) e in
    let z : ◌≡◌ {A = ℕ} 0 1 = cc in omega arith

pub open_there : (t : OpenTable) (p : ℕ) → taken (list_of t) p ≡ true → (k : Taken) × (entry_at t p ≡ Some k)
open_there t p h = go (entry_at t p) refl
  where
    go : (e : Option Taken) → entry_at t p ≡ e → (k : Taken) × (entry_at t p ≡ Some k)
    go None e = absurd (taken_open t p h e)
    go (Some k) e = (k, e)

pub kept_open : (t : OpenTable) (p : ℕ) (k : Taken) → p < t.used → entry_at t p ≡ Some k →
    (k.reads ≤ t.reads.width) × (k.drafts ≤ 32) × (neat t.reads.width (stands_in t p (Some k)) ≡ true)
kept_open t p k h e =
    let whole = ap (kept_at t.reads.width (vec_items t.reads.items) (vec_items t.drafts.items) p) (sym e) ∙ t.kept p h in
    let parts = and_parts (few t.reads.width (Some k)) (neat t.reads.width (stands_in t p (Some k))) whole in
    let sizes = and_parts (leb k.reads t.reads.width) (leb k.drafts 32) parts.0 in
    (leb-true k.reads t.reads.width sizes.0, leb-true k.drafts 32 sizes.1, parts.1)

-- an entry that was read
pub entry_read : (t : OpenTable) (p : ℕ) → p < t.used → (x : Option Taken) → x ≡ get_or (vec_items t.places) p x → entry_at t p ≡ x
entry_read t p h x e = sym (get_or_read (vec_items t.places) p x (omega (arith, t.listed, t.places.ok.0)) e None)

-- a place in use is taken exactly where its entry is
pub open_taken : (t : OpenTable) (p : ℕ) (k : Taken) → p < t.used → entry_at t p ≡ Some k → taken (list_of t) p ≡ true
open_taken t p k h e = ap (λ o. is_some (standing o)) (at_open t p k h e)

-- where no transaction is, nothing was read or drafted
pub nobody_at : (ps : List (Option Open)) (p : ℕ) → taken ps p ≡ false → at ps p ≡ nobody
nobody_at ps p e = go (standing (slice_get ps p)) e
  where
    go : (o : Option Open) → is_some o ≡ false → unwrap_or o nobody ≡ nobody
    go None e = refl
    go (Some o) e = let z : ◌≡◌ {A = ℕ} 0 1 = cc in absurd (omega arith)

-- a change past the places in use changes nothing
pub set_past : {X : Type 0} (xs : List X) (i : ℕ) (x : X) → length xs ≤ i → set xs i x ≡ xs
set_past [] i x h = refl
set_past (y ∷ xs) zero x h = absurd (omega arith)
set_past (y ∷ xs) (suc i) x h = ap (λ l. y ∷ l) (set_past xs i x (omega arith))

-- what is known of a place in use by its entry
pub taken_told : (t : OpenTable) (p : ℕ) (o : Option Taken) → p < t.used → entry_at t p ≡ o →
    MatchOption o (taken (list_of t) p ≡ false) (λ k. (taken (list_of t) p ≡ true) × (entry_at t p ≡ Some k))
taken_told t p None h e = free_untaken t p h e
taken_told t p (Some k) h e = (open_taken t p k h e, e)

-- the places in use, as they are read
pub in_use_many : (t : OpenTable) → length (take t.used (vec_items t.places)) ≡ t.used
in_use_many t = length-take-le t.used (vec_items t.places) (omega (arith, t.listed, t.places.ok.0))
