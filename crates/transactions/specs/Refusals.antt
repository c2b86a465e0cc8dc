-- The refusals of the catalogue's calls, each with its number. Assumes nothing.
--     refusal_number f            the number of a refusal
use Rattle.std.specs.Prelude.{ℕ}
use Rattle.transactions.specs.declared.refusal.Refusal.{Refusal}
use Rattle.transactions.specs.declared.refusal.Refusal.TheVariants as refusals

-- 2 to 5 are set-up's; 6, 7, 10 and 11 the editor's own; 8 and 12 come from other editors; 9, 13 and 14 from the size of things; 15 from a
-- shelf and books that were not set up together
abbrev pub refusal_number : Refusal → ℕ
refusal_number refusals.NoCards = 2
refusal_number refusals.Narrow = 3
refusal_number refusals.NotFresh = 4
refusal_number refusals.ShortBooks = 5
refusal_number refusals.NotOpen = 6
refusal_number refusals.NoCard = 7
refusal_number refusals.AllOpen = 8
refusal_number refusals.NumbersOut = 9
refusal_number refusals.Unread = 10
refusal_number refusals.DraftsOut = 11
refusal_number refusals.Conflict = 12
refusal_number refusals.NoPlace = 13
refusal_number refusals.JournalFull = 14
refusal_number refusals.OtherShelf = 15
