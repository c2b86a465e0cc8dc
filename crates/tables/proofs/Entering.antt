-- A reading or a draft is entered into a row of the tables. Assumes nothing.
use Rattle.std.proofs.Common.{Option, ◌≡◌, ℕ, ◌+◌, ◌*◌, ◌<◌, Bool, true, false, leb, List, [], ◌∷◌, ◌++◌, map, length, set, Some, vec_items, unwrap_or, sym, refl, ap, ◌∙◌, arith}
use Rattle.std.proofs.lemmas.List.{length-map, map_push}
use Rattle.std.proofs.lemmas.Bool.{and_parts, and_from, le-leb}
use Rattle.isolation.specs.Account.{has_read}
use Rattle.transactions.specs.State.{most_drafts}
use Rattle.entries.specs.declared.entries.ReadEntry.{ReadEntry}
use Rattle.entries.specs.declared.entries.Taken.{Taken}
use Rattle.tables.specs.declared.table.OpenTable.{OpenTable}
use Rattle.entries.specs.Numbers.{apart}
use Rattle.tables.specs.Rows.{row, stands, few, neat, kept_at}
use Rattle.entries.specs.Contents.{reading, drafting, read_cards, draft_cards}
use Rattle.tables.specs.Tables.{list_of, entry_at, at, taken, nobody, read_more}
use Rattle.entries.proofs.Apart.{apart_room, apart_push}
use Rattle.tables.proofs.Changes.{Others}
use Rattle.entries.proofs.Drafts.{has_read_member}
use Rattle.tables.proofs.Rows.{row_push, row_set_other, length_row}
use Rattle.tables.proofs.Standing.{at_is, kept_open, open_there, nobody_at, taken_low, reads_end, drafts_end}

module _ (t : OpenTable) (p : ℕ) (k : Taken) (low : p < t.used) (is : entry_at t p ≡ Some k) where
  pub old_reads : (at (list_of t) p).reads ≡ map reading (row t.reads.width p k.reads (vec_items t.reads.items))
  old_reads = ap (λ o. (unwrap_or o nobody).reads) (at_is t p k low is)

  pub old_drafts : (at (list_of t) p).drafts ≡ map drafting (row most_drafts p k.drafts (vec_items t.drafts.items))
  old_drafts = ap (λ o. (unwrap_or o nobody).drafts) (at_is t p k low is)

  pub old_number : (at (list_of t) p).number ≡ k.number.0
  old_number = ap (λ o. (unwrap_or o nobody).number) (at_is t p k low is)

  pub neat_old : (apart t.reads.width (read_cards (at (list_of t) p).reads) ≡ true) × (apart t.reads.width (draft_cards (at (list_of t) p).drafts) ≡ true)
  neat_old =
      and_parts (apart t.reads.width (read_cards (at (list_of t) p).reads)) (apart t.reads.width (draft_cards (at (list_of t) p).drafts))
      (ap (neat t.reads.width) (at_is t p k low is) ∙ (kept_open t p k low is).2)

  pub reads_many : length (at (list_of t) p).reads ≡ k.reads
  reads_many =
      let xs = row t.reads.width p k.reads (vec_items t.reads.items) in
      ap length old_reads ∙ length-map xs reading
      ∙ length_row t.reads.width p k.reads (vec_items t.reads.items)
      (omega (arith, reads_end t p k.reads low (kept_open t p k low is).0, t.reads.items.ok.0))

  pub drafts_many : length (at (list_of t) p).drafts ≡ k.drafts
  drafts_many =
      let xs = row most_drafts p k.drafts (vec_items t.drafts.items) in
      ap length old_drafts ∙ length-map xs drafting
      ∙ length_row most_drafts p k.drafts (vec_items t.drafts.items)
      (omega (arith, drafts_end t p k.drafts low (kept_open t p k low is).1, t.drafts.items.ok.0))

  -- there is an entry free for a card that was not read
  pub reads_room : (x : ℕ) → x < t.reads.width → has_read (at (list_of t) p).reads x ≡ false → k.reads < t.reads.width
  reads_room x h out =
      let rs = (at (list_of t) p).reads in
      let n = apart_room t.reads.width x (read_cards rs) neat_old.0 h (sym (has_read_member rs x) ∙ out) in
      omega (arith, n, length-map rs (λ r. r.card), reads_many)

  module _ (e : ReadEntry) (h : e.card.0 < t.reads.width) (out : has_read (at (list_of t) p).reads e.card.0 ≡ false) where
    abbrev new_reads : List ReadEntry
    new_reads = set (vec_items t.reads.items) (p * t.reads.width + k.reads) e

    abbrev pub read_place : Option Taken
    read_place = Some (record { number = k.number; reads = k.reads + 1; drafts = k.drafts })

    pub read_others : Others t.reads.width p (vec_items t.reads.items) new_reads
    read_others q n ne le = row_set_other t.reads.width p q n k.reads (vec_items t.reads.items) e ne le (reads_room e.card.0 h out)

    pub read_stands : stands t.reads.width new_reads (vec_items t.drafts.items) p read_place
        ≡ Some (read_more (at (list_of t) p) e.card.0 e.version.0)
    read_stands =
        let rs = vec_items t.reads.items in
        let old = row t.reads.width p k.reads rs in
        let end = reads_end t p (k.reads + 1) low (omega (arith, reads_room e.card.0 h out)) in
        let pushed = row_push t.reads.width p k.reads rs e (omega (arith, end, t.reads.items.ok.0)) in
        let reads = ap (map reading) pushed ∙ map_push reading old e ∙ ap (λ l. l ++ (reading e ∷ [])) (sym old_reads) in
        ap (λ l. Some (record { number = k.number.0; reads = l; drafts = map drafting (row most_drafts p k.drafts (vec_items t.drafts.items)) })) reads
        ∙ ap (λ l. Some (record { number = k.number.0; reads = (at (list_of t) p).reads ++ (reading e ∷ []); drafts = l })) (sym old_drafts)
        ∙ ap (λ n. Some (record { number = n; reads = (at (list_of t) p).reads ++ (reading e ∷ []); drafts = (at (list_of t) p).drafts })) (sym old_number)

    pub read_kept : kept_at t.reads.width new_reads (vec_items t.drafts.items) p read_place ≡ true
    read_kept =
        let rs = (at (list_of t) p).reads in
        let x = e.card.0 in
        let sizes = and_from (leb (k.reads + 1) t.reads.width) (leb k.drafts most_drafts)
        (le-leb (k.reads + 1) t.reads.width (omega (arith, reads_room x h out))) (le-leb k.drafts 32 (kept_open t p k low is).1) in
        let cards = map_push (λ r. r.card) rs (reading e) in
        let more = ap (apart t.reads.width) cards ∙ apart_push t.reads.width x (read_cards rs) neat_old.0 h (sym (has_read_member rs x) ∙ out) in
        let whole = and_from (apart t.reads.width (read_cards (rs ++ (reading e ∷ [])))) (apart t.reads.width (draft_cards (at (list_of t) p).drafts)) more neat_old.1 in
        and_from (few t.reads.width read_place) (neat t.reads.width (stands t.reads.width new_reads (vec_items t.drafts.items) p read_place)) sizes (ap (neat t.reads.width) read_stands ∙ whole)

-- the cards of the transaction in any place
pub neat_at : (t : OpenTable) (p : ℕ) →
    (apart t.reads.width (read_cards (at (list_of t) p).reads) ≡ true) × (apart t.reads.width (draft_cards (at (list_of t) p).drafts) ≡ true)
neat_at t p = go (taken (list_of t) p) refl
  where
    go : (b : Bool) → taken (list_of t) p ≡ b →
        (apart t.reads.width (read_cards (at (list_of t) p).reads) ≡ true) × (apart t.reads.width (draft_cards (at (list_of t) p).drafts) ≡ true)
    go true h = let there = open_there t p h in neat_old t p there.0 (taken_low t p h) there.1
    go false h =
        let none = nobody_at (list_of t) p h in
        (ap (λ o. apart t.reads.width (read_cards o.reads)) none, ap (λ o. apart t.reads.width (draft_cards o.drafts)) none)
