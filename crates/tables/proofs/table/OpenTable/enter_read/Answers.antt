use Rattle.std.proofs.Common.{ℕ, ◌+◌, ◌*◌, None, List, get_or, take, set, vec_items, vec_len, ap, ◌∙◌, arith}
use Rattle.transactions.specs.State.{most_drafts}
use Rattle.entries.specs.declared.entries.ReadEntry.{ReadEntry}
use Rattle.tables.specs.Rows.{each, stands, kept_at}
use Rattle.tables.specs.Tables.{Table, list_of, table_of, with_list}
use Rattle.tables.proofs.Changes.{same_rows, list_changed, kept_changed}
use Rattle.tables.proofs.Entering.{reads_room, read_place, read_others, read_stands, read_kept}
use Rattle.tables.proofs.Standing.{taken_low, reads_end}
use Rattle.tables.proofs.table.OpenTable.enter_read.Goals as goal

pub enter-requires : goal.enter-requires
enter-requires c =
    let t = c.args.self.now in
    let k = c.in-Some.taken in
    let low = taken_low t c.args.place c.requires.taken in
    let room = reads_room t c.args.place k low c.in-Some.ensures.1 c.args.entry.card.0 c.requires.listed c.requires.unread in
    omega (arith, reads_end t c.args.place (k.reads + 1) low (omega (arith, room)))

pub overflow_add-taken : goal.overflow_add-taken
overflow_add-taken c =
    let t = c.args.self.now in
    let k = c.in-Some.taken in
    let low = taken_low t c.args.place c.requires.taken in
    let room = reads_room t c.args.place k low c.in-Some.ensures.1 c.args.entry.card.0 c.requires.listed c.requires.unread in
    omega (arith, reads_end t c.args.place (k.reads + 1) low (omega (arith, room)), t.reads.items.ok.1, t.reads.items.small)

pub index_mut-requires : goal.index_mut-requires
index_mut-requires c = omega (arith, taken_low c.args.self.now c.args.place c.requires.taken, c.args.self.now.listed)

pub invariant_of-self : goal.invariant_of-self
invariant_of-self c =
    let t = c.args.self.now in
    let p = c.args.place in
    let k = c.in-Some.taken in
    let e = c.args.entry in
    let low = taken_low t p c.requires.taken in
    let is = c.in-Some.ensures.1 in
    let rs = set (vec_items t.reads.items) (p * t.reads.width + k.reads) e in
    let ds = vec_items t.drafts.items in
    let new = read_place t p k low is e c.requires.listed c.requires.unread in
    let kept = kept_changed t p low new rs ds
    (read_others t p k low is e c.requires.listed c.requires.unread) (same_rows most_drafts p ds)
    (read_kept t p k low is e c.requires.listed c.requires.unread) in
    let now = c.enter.new.self in
    record {
      listed = t.listed;
      read = omega (arith, t.read, ap (λ w. t.used * w) c.enter.ensures.width, c.enter.ensures.size);
      wide = t.wide;
      drafted = t.drafted;
      kept = λ q h.
          ap (λ w. kept_at w (vec_items now.items) ds q (get_or (set (vec_items t.places) p new) q None)) c.enter.ensures.width
          ∙ ap (λ xs. kept_at t.reads.width xs ds q (get_or (set (vec_items t.places) p new) q None)) c.enter.ensures.items ∙ kept q h;
    }

pub returns : goal.returns
returns c =
    let t = c.args.self.now in
    let p = c.args.place in
    let k = c.in-Some.taken in
    let e = c.args.entry in
    let low = taken_low t p c.requires.taken in
    let is = c.in-Some.ensures.1 in
    let rs = set (vec_items t.reads.items) (p * t.reads.width + k.reads) e in
    let ds = vec_items t.drafts.items in
    let new = read_place t p k low is e c.requires.listed c.requires.unread in
    let now = c.enter.new.self in
    let made : ℕ → ℕ → List ReadEntry → Table = λ n w xs.
    record {
      places_size = vec_len t.places;
      reads_size = n;
      drafts_size = vec_len t.drafts.items;
      cards = w;
      list = each (stands w xs ds) 0 (take t.used (set (vec_items t.places) p new));
    } in
    ap (λ n. made n now.width (vec_items now.items)) c.enter.ensures.size
    ∙ ap (λ w. made (vec_len t.reads.items) w (vec_items now.items)) c.enter.ensures.width
    ∙ ap (made (vec_len t.reads.items) t.reads.width) c.enter.ensures.items
    ∙ ap (with_list (table_of t))
    (list_changed t p low new rs ds
    (read_others t p k low is e c.requires.listed c.requires.unread) (same_rows most_drafts p ds)
    ∙ ap (set (list_of t) p) (read_stands t p k low is e c.requires.listed c.requires.unread))
