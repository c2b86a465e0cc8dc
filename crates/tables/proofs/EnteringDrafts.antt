-- A draft is entered into a row of the tables. Assumes nothing.
use Rattle.std.proofs.Common.{Option, ◌≡◌, ℕ, ◌+◌, ◌*◌, ◌<◌, ◌≤◌, true, false, leb, List, [], ◌∷◌, ◌++◌, map, length, get_or, set, Some, vec_items, sym, ap, ◌∙◌, arith}
use Rattle.std.proofs.lemmas.List.{map_push, map-set, set-get_or}
use Rattle.std.proofs.lemmas.Bool.{and_from, le-leb}
use Rattle.isolation.specs.Account.{drafted, with_draft}
use Rattle.transactions.specs.State.{Open, most_drafts}
use Rattle.entries.specs.declared.entries.DraftEntry.{DraftEntry}
use Rattle.entries.specs.declared.entries.Taken.{Taken}
use Rattle.tables.specs.declared.table.OpenTable.{OpenTable}
use Rattle.entries.specs.Numbers.{apart}
use Rattle.tables.specs.Rows.{row, stands, few, neat, kept_at}
use Rattle.entries.specs.Contents.{reading, drafting, read_cards, draft_cards}
use Rattle.tables.specs.Tables.{list_of, entry_at, at, draft_set}
use Rattle.entries.proofs.Apart.{apart_push}
use Rattle.tables.proofs.Changes.{Others}
use Rattle.entries.proofs.Drafts.{drafted_member, with_draft_new, with_draft_set}
use Rattle.tables.proofs.Entering.{old_reads, old_drafts, old_number, neat_old, drafts_many}
use Rattle.tables.proofs.Rows.{row_push, row_put, row_set_other}
use Rattle.tables.proofs.Standing.{kept_open, drafts_end}

module _ (t : OpenTable) (p : ℕ) (k : Taken) (low : p < t.used) (is : entry_at t p ≡ Some k) (e : DraftEntry) where
  abbrev old : Open
  old = at (list_of t) p

  -- a place whose row of drafts, with n entries, has become those of the draft set
  drafts_stand : (n : ℕ) (ds' : List DraftEntry) → map drafting (row most_drafts p n ds') ≡ with_draft old.drafts e.card.0 e.value →
      stands t.reads.width (vec_items t.reads.items) ds' p (Some (record { number = k.number; reads = k.reads; drafts = n }))
      ≡ Some (draft_set old e.card.0 e.value)
  drafts_stand n ds' drafts =
      ap (λ l. Some (record { number = k.number.0; reads = map reading (row t.reads.width p k.reads (vec_items t.reads.items)); drafts = l })) drafts
      ∙ ap (λ l. Some (record { number = k.number.0; reads = l; drafts = with_draft old.drafts e.card.0 e.value })) (sym (old_reads t p k low is))
      ∙ ap (λ m. Some (record { number = m; reads = old.reads; drafts = with_draft old.drafts e.card.0 e.value })) (sym (old_number t p k low is))

  drafts_kept : (n : ℕ) (ds' : List DraftEntry) → n ≤ 32 → map drafting (row most_drafts p n ds') ≡ with_draft old.drafts e.card.0 e.value →
      apart t.reads.width (draft_cards (with_draft old.drafts e.card.0 e.value)) ≡ true →
      kept_at t.reads.width (vec_items t.reads.items) ds' p (Some (record { number = k.number; reads = k.reads; drafts = n })) ≡ true
  drafts_kept n ds' le drafts ok =
      let q : Option Taken = Some (record { number = k.number; reads = k.reads; drafts = n }) in
      let sizes = and_from (leb k.reads t.reads.width) (leb n most_drafts) (le-leb k.reads t.reads.width (kept_open t p k low is).0) (le-leb n 32 le) in
      let whole = and_from (apart t.reads.width (read_cards old.reads)) (apart t.reads.width (draft_cards (with_draft old.drafts e.card.0 e.value)))
      (neat_old t p k low is).0 ok in
      and_from (few t.reads.width q) (neat t.reads.width (stands t.reads.width (vec_items t.reads.items) ds' p q)) sizes (ap (neat t.reads.width) (drafts_stand n ds' drafts) ∙ whole)

  module _ (h : e.card.0 < t.reads.width) (room : k.drafts < 32) (out : drafted old.drafts e.card.0 ≡ false) where
    abbrev more_drafts : List DraftEntry
    more_drafts = set (vec_items t.drafts.items) (p * 32 + k.drafts) e

    abbrev pub added_place : Option Taken
    added_place = Some (record { number = k.number; reads = k.reads; drafts = k.drafts + 1 })

    pub added_others : Others most_drafts p (vec_items t.drafts.items) more_drafts
    added_others q n ne le = row_set_other most_drafts p q n k.drafts (vec_items t.drafts.items) e ne le room

    added_row : map drafting (row most_drafts p (k.drafts + 1) more_drafts) ≡ with_draft old.drafts e.card.0 e.value
    added_row =
        let ds = vec_items t.drafts.items in
        let end = drafts_end t p (k.drafts + 1) low (omega arith) in
        let pushed = row_push most_drafts p k.drafts ds e (omega (arith, end, t.drafts.items.ok.0)) in
        ap (map drafting) pushed ∙ map_push drafting (row most_drafts p k.drafts ds) e ∙ ap (λ l. l ++ (drafting e ∷ [])) (sym (old_drafts t p k low is))
        ∙ sym (with_draft_new old.drafts e.card.0 e.value out)

    pub added_stands : stands t.reads.width (vec_items t.reads.items) more_drafts p added_place ≡ Some (draft_set old e.card.0 e.value)
    added_stands = drafts_stand (k.drafts + 1) more_drafts added_row

    pub added_kept : kept_at t.reads.width (vec_items t.reads.items) more_drafts p added_place ≡ true
    added_kept =
        let ds = old.drafts in
        let x = e.card.0 in
        let cards = ap draft_cards (with_draft_new ds x e.value out) ∙ map_push (λ d. d.card) ds (drafting e) in
        let ok = ap (apart t.reads.width) cards ∙ apart_push t.reads.width x (draft_cards ds) (neat_old t p k low is).1 h (sym (drafted_member ds x) ∙ out) in
        drafts_kept (k.drafts + 1) more_drafts (omega arith) added_row ok

  module _ (j : ℕ) (h : j < length old.drafts) (same : get_or (draft_cards old.drafts) j 0 ≡ e.card.0) where
    abbrev set_drafts : List DraftEntry
    set_drafts = set (vec_items t.drafts.items) (p * 32 + j) e

    pub replaced_low : j < 32
    replaced_low = omega (arith, drafts_many t p k low is, (kept_open t p k low is).1)

    pub replaced_others : Others most_drafts p (vec_items t.drafts.items) set_drafts
    replaced_others q n ne le = row_set_other most_drafts p q n j (vec_items t.drafts.items) e ne le replaced_low

    replaced_row : map drafting (row most_drafts p k.drafts set_drafts) ≡ with_draft old.drafts e.card.0 e.value
    replaced_row =
        let ds = vec_items t.drafts.items in
        ap (map drafting) (row_put most_drafts p k.drafts j ds e)
        ∙ map-set drafting (row most_drafts p k.drafts ds) j e ∙ ap (λ l. set l j (drafting e)) (sym (old_drafts t p k low is))
        ∙ sym (with_draft_set t.reads.width old.drafts j e.card.0 e.value (neat_old t p k low is).1 h same)

    pub replaced_stands : stands t.reads.width (vec_items t.reads.items) set_drafts p (Some k) ≡ Some (draft_set old e.card.0 e.value)
    replaced_stands = drafts_stand k.drafts set_drafts replaced_row

    pub replaced_kept : kept_at t.reads.width (vec_items t.reads.items) set_drafts p (Some k) ≡ true
    replaced_kept =
        let ds = old.drafts in
        let x = e.card.0 in
        let cards = ap draft_cards (with_draft_set t.reads.width ds j x e.value (neat_old t p k low is).1 h same)
        ∙ map-set (λ d. d.card) ds j (drafting e) ∙ ap (set (draft_cards ds) j) (sym same) ∙ set-get_or (draft_cards ds) j 0 in
        drafts_kept k.drafts set_drafts (kept_open t p k low is).1 replaced_row (ap (apart t.reads.width) cards ∙ (neat_old t p k low is).1)
