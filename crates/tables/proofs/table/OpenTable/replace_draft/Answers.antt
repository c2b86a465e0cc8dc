use Rattle.std.proofs.Common.{ℕ, ◌+◌, ◌*◌, None, Some, List, get_or, take, set, vec_items, vec_len, sym, ap, ◌∙◌, arith}
use Rattle.std.proofs.lemmas.List.{set-get_or}
use Rattle.entries.specs.declared.entries.DraftEntry.{DraftEntry}
use Rattle.tables.specs.Rows.{each, stands, kept_at}
use Rattle.tables.specs.Tables.{Table, list_of, table_of, with_list}
use Rattle.tables.proofs.Changes.{same_rows, list_changed, kept_changed}
use Rattle.tables.proofs.EnteringDrafts.{replaced_low, replaced_others, replaced_stands, replaced_kept}
use Rattle.tables.proofs.Standing.{taken_low, open_there, drafts_end}
use Rattle.tables.proofs.table.OpenTable.replace_draft.Goals as goal

pub enter-requires : goal.enter-requires
enter-requires c =
    let t = c.args.self.now in
    let p = c.args.place in
    let low = taken_low t p c.requires.taken in
    let there = open_there t p c.requires.taken in
    let below = replaced_low t p there.0 low there.1 c.args.draft c.args.nth c.requires.there c.requires.same in
    omega (arith, drafts_end t p (c.args.nth + 1) low (omega (arith, below)), ap (λ w. p * w) t.wide)

pub invariant_of-self : goal.invariant_of-self
invariant_of-self c =
    let t = c.args.self.now in
    let p = c.args.place in
    let low = taken_low t p c.requires.taken in
    let there = open_there t p c.requires.taken in
    let k = there.0 in
    let is = there.1 in
    let e = c.args.draft in
    let rs = vec_items t.reads.items in
    let ds = set (vec_items t.drafts.items) (p * 32 + c.args.nth) e in
    let unset = ap (set (vec_items t.places) p) (sym is) ∙ set-get_or (vec_items t.places) p None in
    let changed = kept_changed t p low (Some k) rs ds
    (same_rows t.reads.width p rs) (replaced_others t p k low is e c.args.nth c.requires.there c.requires.same)
    (replaced_kept t p k low is e c.args.nth c.requires.there c.requires.same) in
    let items = c.enter.ensures.items ∙ ap (λ w. set (vec_items t.drafts.items) (p * w + c.args.nth) e) t.wide in
    record {
      listed = t.listed;
      read = t.read;
      wide = c.enter.ensures.width ∙ t.wide;
      drafted = omega (arith, t.drafted, c.enter.ensures.size);
      kept = λ q h.
          ap (λ xs. kept_at t.reads.width rs xs q (get_or (vec_items t.places) q None)) items
          ∙ ap (λ l. kept_at t.reads.width rs ds q (get_or l q None)) (sym unset) ∙ changed q h;
    }

pub returns : goal.returns
returns c =
    let t = c.args.self.now in
    let p = c.args.place in
    let low = taken_low t p c.requires.taken in
    let there = open_there t p c.requires.taken in
    let k = there.0 in
    let is = there.1 in
    let e = c.args.draft in
    let rs = vec_items t.reads.items in
    let ds = set (vec_items t.drafts.items) (p * 32 + c.args.nth) e in
    let unset = ap (set (vec_items t.places) p) (sym is) ∙ set-get_or (vec_items t.places) p None in
    let items = c.enter.ensures.items ∙ ap (λ w. set (vec_items t.drafts.items) (p * w + c.args.nth) e) t.wide in
    let made : ℕ → List DraftEntry → Table = λ n xs.
    record {
      places_size = vec_len t.places;
      reads_size = vec_len t.reads.items;
      drafts_size = n;
      cards = t.reads.width;
      list = each (stands t.reads.width rs xs) 0 (take t.used (vec_items t.places));
    } in
    ap (λ n. made n (vec_items c.enter.new.self.items)) c.enter.ensures.size ∙ ap (made (vec_len t.drafts.items)) items
    ∙ ap (with_list (table_of t))
    (ap (λ l. each (stands t.reads.width rs ds) 0 (take t.used l)) (sym unset)
    ∙ list_changed t p low (Some k) rs ds
    (same_rows t.reads.width p rs) (replaced_others t p k low is e c.args.nth c.requires.there c.requires.same)
    ∙ ap (set (list_of t) p) (replaced_stands t p k low is e c.args.nth c.requires.there c.requires.same))
