-- The places of the open list. Assumes nothing.
use Rattle.std.proofs.Common.{◌≡◌, ℕ, suc, ◌+◌, Bool, true, not, eqb, List, [], ◌∷◌, get_or, Some, None, Option, MatchOption, Bor, sym, refl, ap, ◌∙◌, arith}
use Rattle.std.specs.List.{slice_get, list_any}
use Rattle.entries.proofs.Last.{last_at_none, last_at_holds}
use Rattle.stamps.specs.declared.numbers.TxNo.{TxNo}
use Rattle.transactions.specs.State.{last_at, numbered}
use Rattle.transactions.specs.Calls.{all_taken}
use Rattle.entries.specs.declared.entries.ReadEntry.{ReadEntry}
use Rattle.entries.specs.declared.entries.DraftEntry.{DraftEntry}
use Rattle.entries.specs.declared.entries.Taken.{Taken}
use Rattle.tables.specs.Rows.{each, stands}
use Rattle.std.specs.Option.{option_eq, option_map}
use Rattle.tables.proofs.Each.{last_each, nth_each}

-- a place has this number: that of its transaction, none where it is free
abbrev pub has_number : Option TxNo → Option Taken → Bool
has_number n e = option_eq (λ a b. eqb a.0 b.0) (option_map (λ t. t.number) e) n

numbered_stands : (n : TxNo) (cards : ℕ) (rs : List ReadEntry) (ds : List DraftEntry) (p : ℕ) (e : Option Taken) →
    numbered n.0 (stands cards rs ds p e) ≡ has_number (Some n) e
numbered_stands n cards rs ds p None = refl
numbered_stands n cards rs ds p (Some t) = refl

pub found_place : (n : ℕ) (m : TxNo) (cards : ℕ) (rs : List ReadEntry) (ds : List DraftEntry) (ps : List (Option Taken)) → m.0 ≡ n →
    last_at (has_number (Some m)) ps ≡ last_at (numbered n) (each (stands cards rs ds) 0 ps)
found_place n m cards rs ds ps same =
    sym (last_each (numbered m.0) (has_number (Some m)) (stands cards rs ds) 0 0 ps None (numbered_stands m cards rs ds))
    ∙ ap (λ k. last_at (numbered k) (each (stands cards rs ds) 0 ps)) same

-- no place is free
pub all_taken_each : (cards : ℕ) (rs : List ReadEntry) (ds : List DraftEntry) (i : ℕ) (ps : List (Option Taken)) →
    all_taken (each (stands cards rs ds) i ps) ≡ not (list_any (has_number None) ps)
all_taken_each cards rs ds i [] = refl
all_taken_each cards rs ds i (None ∷ ps) = refl
all_taken_each cards rs ds i (Some t ∷ ps) = all_taken_each cards rs ds (suc i) ps

-- the last free place
pub free_found : (cards : ℕ) (rs : List ReadEntry) (ds : List DraftEntry) (ps : List (Option Taken)) (r : Option ℕ) → r ≡ last_at (has_number None) ps →
    MatchOption r (all_taken (each (stands cards rs ds) 0 ps) ≡ true) (λ i. slice_get (each (stands cards rs ds) 0 ps) i ≡ Some None)
free_found cards rs ds ps None e = all_taken_each cards rs ds 0 ps ∙ ap not (last_at_none (has_number None) ps (sym e))
free_found cards rs ds ps (Some i) e =
    let here = last_at_holds (has_number None) ps i None (sym e) in
    nth_each (stands cards rs ds) 0 i ps None here.0 ∙ ap Some (free (0 + i) (get_or ps i None) here.1)
  where
    free : (j : ℕ) (o : Option Taken) → has_number None o ≡ true → stands cards rs ds j o ≡ None
    free j None h = refl
    free j (Some k) h = let z : ◌≡◌ {A = ℕ} 0 1 = cc in absurd (omega arith)

-- what is read through a reference
pub seen_once : {X Y : Type 0} (f : X → Y) (o : Option (Bor X)) → option_map (λ e. f e.now) o ≡ option_map f (option_map (λ e. e.now) o)
seen_once f None = refl
seen_once f (Some e) = refl

pub seen_through : {X Y Z : Type 0} (f : X → Y) (g : Y → Z) (o : Option (Bor X)) →
    option_map g (option_map (λ e. f e.now) o) ≡ option_map (λ e. g (f e)) (option_map (λ e. e.now) o)
seen_through f g None = refl
seen_through f g (Some e) = refl
