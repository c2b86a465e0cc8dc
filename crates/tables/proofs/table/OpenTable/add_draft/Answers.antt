use Rattle.std.proofs.Common.{ℕ, ◌+◌, ◌*◌, ◌<◌, None, List, get_or, take, set, vec_items, vec_len, ap, ◌∙◌, arith}
use Rattle.entries.specs.declared.entries.DraftEntry.{DraftEntry}
use Rattle.tables.specs.Rows.{each, stands, kept_at}
use Rattle.tables.specs.Tables.{Table, list_of, table_of, with_list}
use Rattle.tables.proofs.Changes.{same_rows, list_changed, kept_changed}
use Rattle.tables.proofs.Entering.{drafts_many}
use Rattle.tables.proofs.EnteringDrafts.{added_place, added_others, added_stands, added_kept}
use Rattle.tables.proofs.Standing.{taken_low, drafts_end}
use Rattle.tables.proofs.table.OpenTable.add_draft.Goals as goal

pub enter-requires : goal.enter-requires
enter-requires c =
    let t = c.args.self.now in
    let p = c.args.place in
    let k = c.in-Some.taken in
    let low = taken_low t p c.requires.taken in
    let room = drafts_many t p k low c.in-Some.ensures.1 in
    omega (arith, drafts_end t p (k.drafts + 1) low (omega (arith, room, c.requires.few)), ap (λ w. p * w) t.wide)

pub overflow_add-taken : goal.overflow_add-taken
overflow_add-taken c =
    let t = c.args.self.now in
    let p = c.args.place in
    let k = c.in-Some.taken in
    let low = taken_low t p c.requires.taken in
    let room = drafts_many t p k low c.in-Some.ensures.1 in
    omega (arith, room, c.requires.few)

pub index_mut-requires : goal.index_mut-requires
index_mut-requires c = omega (arith, taken_low c.args.self.now c.args.place c.requires.taken, c.args.self.now.listed)

pub invariant_of-self : goal.invariant_of-self
invariant_of-self c =
    let t = c.args.self.now in
    let p = c.args.place in
    let k = c.in-Some.taken in
    let low = taken_low t p c.requires.taken in
    let is = c.in-Some.ensures.1 in
    let room = drafts_many t p k low is in
    let e = c.args.draft in
    let few : k.drafts < 32 = omega (arith, room, c.requires.few) in
    let rs = vec_items t.reads.items in
    let ds = set (vec_items t.drafts.items) (p * 32 + k.drafts) e in
    let new = added_place t p k low is e c.requires.listed few c.requires.undrafted in
    let kept = kept_changed t p low new rs ds
    (same_rows t.reads.width p rs) (added_others t p k low is e c.requires.listed few c.requires.undrafted)
    (added_kept t p k low is e c.requires.listed few c.requires.undrafted) in
    let items = c.enter.ensures.items ∙ ap (λ w. set (vec_items t.drafts.items) (p * w + k.drafts) e) t.wide in
    record {
      listed = t.listed;
      read = t.read;
      wide = c.enter.ensures.width ∙ t.wide;
      drafted = omega (arith, t.drafted, c.enter.ensures.size);
      kept = λ q h. ap (λ xs. kept_at t.reads.width rs xs q (get_or (set (vec_items t.places) p new) q None)) items ∙ kept q h;
    }

pub returns : goal.returns
returns c =
    let t = c.args.self.now in
    let p = c.args.place in
    let k = c.in-Some.taken in
    let low = taken_low t p c.requires.taken in
    let is = c.in-Some.ensures.1 in
    let room = drafts_many t p k low is in
    let e = c.args.draft in
    let few : k.drafts < 32 = omega (arith, room, c.requires.few) in
    let rs = vec_items t.reads.items in
    let ds = set (vec_items t.drafts.items) (p * 32 + k.drafts) e in
    let new = added_place t p k low is e c.requires.listed few c.requires.undrafted in
    let items = c.enter.ensures.items ∙ ap (λ w. set (vec_items t.drafts.items) (p * w + k.drafts) e) t.wide in
    let made : ℕ → List DraftEntry → Table = λ n xs.
    record {
      places_size = vec_len t.places;
      reads_size = vec_len t.reads.items;
      drafts_size = n;
      cards = t.reads.width;
      list = each (stands t.reads.width rs xs) 0 (take t.used (set (vec_items t.places) p new));
    } in
    ap (λ n. made n (vec_items c.enter.new.self.items)) c.enter.ensures.size ∙ ap (made (vec_len t.drafts.items)) items
    ∙ ap (with_list (table_of t))
    (list_changed t p low new rs ds
    (same_rows t.reads.width p rs) (added_others t p k low is e c.requires.listed few c.requires.undrafted)
    ∙ ap (set (list_of t) p) (added_stands t p k low is e c.requires.listed few c.requires.undrafted))
