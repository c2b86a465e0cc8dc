-- What entries say. Assumes nothing.
--     reading, drafting   what an entry of the reads says, and one of the drafts
--     read_cards, draft_cards         the cards of readings and of drafts
--     opening n rs ds     the open transaction n with these readings and drafts
use Rattle.std.specs.Prelude.{ℕ, List, map}
use Rattle.isolation.specs.Account.{Reading, Draft}
use Rattle.transactions.specs.State.{Open}
use Rattle.entries.specs.declared.entries.ReadEntry.{ReadEntry}
use Rattle.entries.specs.declared.entries.DraftEntry.{DraftEntry}

abbrev pub reading : ReadEntry → Reading
reading e = record { card = e.card.0; version = e.version.0 }

abbrev pub drafting : DraftEntry → Draft
drafting e = record { card = e.card.0; value = e.value }

abbrev pub read_cards : List Reading → List ℕ
read_cards rs = map (λ r. r.card) rs

abbrev pub draft_cards : List Draft → List ℕ
draft_cards ds = map (λ d. d.card) ds

abbrev pub opening : ℕ → List Reading → List Draft → Open
opening n rs ds = record { number = n; reads = rs; drafts = ds }
