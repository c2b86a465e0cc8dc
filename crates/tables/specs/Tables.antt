-- What the tables of open transactions mean. What unused entries hold is no part of this. Assumes nothing.
--     Table               the sizes of the memory; the cards at set-up; the places used, each free or with its transaction
--     table_of t          the meaning of the tables t
--     entry_at t p        the entry of place p
--     nobody, at ps i     the transaction in place i, and one that did nothing where there is none
--     seat o              the same of the place and the table that o is of
--     taken ps i          there is a transaction in place i
--     with_list t ps      t with other places
--     used_of t           how many places set-up takes into use
--     enough t cards      there is a place, and for each place used one read entry for each card and 32 drafts
--     laid_out t cards    t after set-up
--     read_more, draft_set            a transaction with one reading more, and with a draft set
use Rattle.entries.specs.declared.entries.Taken.{Taken}
use Rattle.std.specs.Prelude.{ℕ, ◌*◌, min, Bool, ◌&&◌, List, [], ◌∷◌, ◌++◌, take, replicate, is_some, None, vec_items, vec_len, Option, nat_le, nat_lt, slice_index_or, slice_set}
use Rattle.std.specs.List.{slice_get}
use Rattle.std.specs.Option.{unwrap_or}
use Rattle.stamps.specs.declared.value.Value.{Value}
use Rattle.isolation.specs.Account.{with_draft}
use Rattle.transactions.specs.State.{Open, standing, most_open, most_drafts}
use Rattle.tables.specs.declared.table.OpenTable.{OpenTable}
use Rattle.tables.specs.declared.table.open_at.OpenAt.{OpenAt}
use Rattle.tables.specs.Rows.{each, stands}

pub record Table : Type 0 where
  pub places_size : ℕ
  pub reads_size : ℕ
  pub drafts_size : ℕ
  pub cards : ℕ
  pub list : List (Option Open)

abbrev pub list_of : OpenTable → List (Option Open)
list_of t = each (stands t.reads.width (vec_items t.reads.items) (vec_items t.drafts.items)) 0 (take t.used (vec_items t.places))

abbrev pub table_of : OpenTable → Table
table_of t =
    record {
      places_size = vec_len t.places;
      reads_size = vec_len t.reads.items;
      drafts_size = vec_len t.drafts.items;
      cards = t.reads.width;
      list = list_of t;
    }

abbrev pub entry_at : OpenTable → ℕ → Option Taken
entry_at t p = slice_index_or (vec_items t.places) p None

abbrev pub nobody : Open
nobody = record { number = 0; reads = []; drafts = [] }

abbrev pub at : List (Option Open) → ℕ → Open
at ps i = unwrap_or (standing (slice_get ps i)) nobody

abbrev pub seat : OpenAt → Open
seat o = at (list_of o.table.now) o.place

abbrev pub taken : List (Option Open) → ℕ → Bool
taken ps i = is_some (standing (slice_get ps i))

abbrev pub with_list : Table → List (Option Open) → Table
with_list t ps =
    record { places_size = t.places_size; reads_size = t.reads_size; drafts_size = t.drafts_size; cards = t.cards; list = ps }

abbrev pub with_place : Table → ℕ → Option Open → Table
with_place t i o = with_list t (slice_set t.list i o)

abbrev pub read_more : Open → (x k : ℕ) → Open
read_more o x k = record { number = o.number; reads = o.reads ++ (record { card = x; version = k } ∷ []); drafts = o.drafts }

abbrev pub draft_set : Open → ℕ → Value → Open
draft_set o x v = record { number = o.number; reads = o.reads; drafts = with_draft o.drafts x v }

abbrev pub used_of : Table → ℕ
used_of t = min most_open t.places_size

abbrev pub enough : Table → ℕ → Bool
enough t cards =
    nat_lt 0 t.places_size && (nat_le (used_of t * cards) t.reads_size && nat_le (used_of t * most_drafts) t.drafts_size)

abbrev pub laid_out : Table → ℕ → Table
laid_out t cards =
    record {
      places_size = t.places_size;
      reads_size = t.reads_size;
      drafts_size = t.drafts_size;
      cards = cards;
      list = replicate (used_of t) None;
    }
