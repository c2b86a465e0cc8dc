-- What stands in the places of the books, whose tables of reads and drafts have a row for each place. Assumes nothing.
--     row len p n xs      the first n entries of row p, where a row has len entries
--     stands cards rs ds p e          the transaction in place p, with its rows of the tables rs and ds
--     neat cards o        its cards read are below `cards` and no two are the same; so are its cards drafted
--     few cards e         no more reads and drafts than a row has entries
--     kept_at cards rs ds p e         place p has no more reads and drafts than its rows have entries, and is neat
--     each f i xs         f of each element with its place, counted from i
use Rattle.entries.specs.declared.entries.Taken.{Taken}
use Rattle.std.specs.Prelude.{ℕ, suc, ◌+◌, ◌*◌, Bool, true, ◌&&◌, List, [], ◌∷◌, map, Some, None, Option, nat_le}
use Rattle.std.specs.List.{between}
use Rattle.transactions.specs.State.{Open, most_drafts}
use Rattle.entries.specs.declared.entries.ReadEntry.{ReadEntry}
use Rattle.entries.specs.declared.entries.DraftEntry.{DraftEntry}
use Rattle.entries.specs.Numbers.{apart}
use Rattle.entries.specs.Contents.{reading, drafting, read_cards, draft_cards}

abbrev pub row : {X : Type 0} → (len p n : ℕ) → List X → List X
row len p n xs = between (p * len) (p * len + n) xs

abbrev pub stands : ℕ → List ReadEntry → List DraftEntry → ℕ → Option Taken → Option Open
stands cards rs ds p None = None
stands cards rs ds p (Some t) =
    Some (record {
      number = t.number.0;
      reads = map reading (row cards p t.reads rs);
      drafts = map drafting (row most_drafts p t.drafts ds);
    })

abbrev pub neat : ℕ → Option Open → Bool
neat cards None = true
neat cards (Some o) = apart cards (read_cards o.reads) && apart cards (draft_cards o.drafts)

abbrev pub few : ℕ → Option Taken → Bool
few cards None = true
few cards (Some t) = nat_le t.reads cards && nat_le t.drafts most_drafts

abbrev pub kept_at : ℕ → List ReadEntry → List DraftEntry → ℕ → Option Taken → Bool
kept_at cards rs ds p e = few cards e && neat cards (stands cards rs ds p e)

abbrev pub each : {X Y : Type 0} → (ℕ → X → Y) → ℕ → List X → List Y
each f i [] = []
each f i (x ∷ xs) = f i x ∷ each f (suc i) xs
