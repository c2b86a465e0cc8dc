-- One place of the tables changes. Assumes nothing.
use Rattle.entries.specs.declared.entries.Taken.{Taken}
use Rattle.std.proofs.Common.{None, ◌≡◌, ℕ, ◌+◌, ◌<◌, ◌≤◌, true, ◌&&◌, leb, ◌≢◌, List, [], map, length, get_or, take, set, Some, vec_items, Option, sym, refl, ap, ◌∙◌, ⊎_elim, arith}
use Rattle.std.proofs.lemmas.List.{length-take-le, get_or-take, get_or-set_same, get_or-set_other}
use Rattle.std.proofs.lemmas.Bool.{and_parts, leb-true, cases_eq}
use Rattle.stamps.specs.declared.numbers.TxNo.{TxNo}
use Rattle.transactions.specs.State.{Open, most_drafts}
use Rattle.entries.specs.declared.entries.ReadEntry.{ReadEntry}
use Rattle.entries.specs.declared.entries.DraftEntry.{DraftEntry}
use Rattle.tables.specs.declared.table.OpenTable.{OpenTable}
use Rattle.tables.specs.Rows.{row, each, stands, few, neat, kept_at}
use Rattle.entries.specs.Contents.{reading, drafting}
use Rattle.tables.specs.Tables.{list_of, entry_at}
use Rattle.tables.proofs.Each.{each_set}
use Rattle.tables.proofs.Rows.{take_set_inside, between_zero}

-- only row p differs
abbrev pub Others : {X : Type 0} → (len p : ℕ) → (xs ys : List X) → Type 0
Others len p xs ys = (q n : ℕ) → q ≢ p → n ≤ len → row len q n ys ≡ row len q n xs

pub same_rows : {X : Type 0} (len p : ℕ) (xs : List X) → Others len p xs xs
same_rows len p xs q n ne h = refl

module _ (cards p : ℕ) (rs rs' : List ReadEntry) (ds ds' : List DraftEntry)
    (reads : Others cards p rs rs') (drafts : Others most_drafts p ds ds') where
  pub stands_other : (q : ℕ) (e : Option Taken) → q ≢ p → few cards e ≡ true → stands cards rs' ds' q e ≡ stands cards rs ds q e
  stands_other q None ne h = refl
  stands_other q (Some t) ne h =
      let sizes = and_parts (leb t.reads cards) (leb t.drafts most_drafts) h in
      let r = reads q t.reads ne (leb-true t.reads cards sizes.0) in
      let d = drafts q t.drafts ne (leb-true t.drafts most_drafts sizes.1) in
      let made : List ReadEntry → List DraftEntry → Option Open =
      λ xs ys. Some (record { number = t.number.0; reads = map reading xs; drafts = map drafting ys }) in
      ap (λ xs. made xs (row most_drafts q t.drafts ds')) r ∙ ap (λ ys. made (row cards q t.reads rs) ys) d

-- the place p of t now has the entry e, and rows of rs' and ds'
module _ (t : OpenTable) (p : ℕ) (low : p < t.used) (e : Option Taken) (rs' : List ReadEntry) (ds' : List DraftEntry)
    (reads : Others t.reads.width p (vec_items t.reads.items) rs') (drafts : Others most_drafts p (vec_items t.drafts.items) ds') where
  kept_few : (q : ℕ) → q < t.used → few t.reads.width (entry_at t q) ≡ true
  kept_few q h =
      (and_parts (few t.reads.width (entry_at t q)) (neat t.reads.width (stands t.reads.width (vec_items t.reads.items) (vec_items t.drafts.items) q (entry_at t q))) (t.kept q h)).0

  pub list_changed : each (stands t.reads.width rs' ds') 0 (take t.used (set (vec_items t.places) p e))
      ≡ set (list_of t) p (stands t.reads.width rs' ds' p e)
  list_changed =
      let ps = take t.used (vec_items t.places) in
      let size = length-take-le t.used (vec_items t.places) (omega (arith, t.listed, t.places.ok.0)) in
      let at : 0 + p ≡ p = omega arith in
      let f = stands t.reads.width (vec_items t.reads.items) (vec_items t.drafts.items) in
      let g = stands t.reads.width rs' ds' in
      ap (each g 0) (take_set_inside t.used p (vec_items t.places) e)
      ∙ each_set f g 0 p ps e None (omega (arith, size))
      (λ j (h : j < length ps) ne.
      let zero : 0 + j ≡ j = omega arith in
      let here = get_or-take t.used (vec_items t.places) j None (omega (arith, size)) in
      let same = stands_other t.reads.width p (vec_items t.reads.items) rs' (vec_items t.drafts.items) ds' reads drafts j (entry_at t j) ne (kept_few j (omega (arith, size))) in
      ap (λ k. g k (get_or ps j None)) zero ∙ ap (g j) here ∙ same ∙ ap (f j) (sym here) ∙ ap (λ k. f k (get_or ps j None)) (sym zero))
      ∙ ap (λ k. set (list_of t) p (g k e)) at

  pub kept_changed : kept_at t.reads.width rs' ds' p e ≡ true →
      (q : ℕ) → q < t.used → kept_at t.reads.width rs' ds' q (get_or (set (vec_items t.places) p e) q None) ≡ true
  kept_changed new q h =
      ⊎_elim
      (λ (same : q ≡ p).
      let here = get_or-set_same (vec_items t.places) p e None (omega (arith, t.listed, t.places.ok.0)) in
      ap (λ k. kept_at t.reads.width rs' ds' k (get_or (set (vec_items t.places) p e) k None)) same
      ∙ ap (kept_at t.reads.width rs' ds' p) here ∙ new)
      (λ (ne : q ≡ p → ⊥).
      let there = get_or-set_other (vec_items t.places) p q e None ne in
      let same = stands_other t.reads.width p (vec_items t.reads.items) rs' (vec_items t.drafts.items) ds' reads drafts q (entry_at t q) ne (kept_few q h) in
      ap (kept_at t.reads.width rs' ds' q) there ∙ ap (λ o. few t.reads.width (entry_at t q) && neat t.reads.width o) same ∙ t.kept q h)
      (cases_eq q p)

pub stands_new : (cards : ℕ) (rs : List ReadEntry) (ds : List DraftEntry) (p : ℕ) (n : TxNo) →
    stands cards rs ds p (Some (record { number = n; reads = 0; drafts = 0 })) ≡ Some (record { number = n.0; reads = []; drafts = [] })
stands_new cards rs ds p n =
    let made : List ReadEntry → List DraftEntry → Option Open =
    λ xs ys. Some (record { number = n.0; reads = map reading xs; drafts = map drafting ys }) in
    ap (λ xs. made xs (row most_drafts p 0 ds)) (between_zero cards p 0 rs refl) ∙ ap (made []) (between_zero most_drafts p 0 ds refl)
