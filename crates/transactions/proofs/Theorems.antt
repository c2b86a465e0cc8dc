-- The theorems of specs/Theorems, from the lemmas.
use Rattle.std.proofs.Common.{sym, subst, arith}
use Rattle.transactions.specs.Theorems.{SetUpBegins, OpenKeeps, ReadKeeps, DraftKeeps, CommitKeeps, AbandonKeeps, CloseKeeps, ShelfIsTold, StampsAreVectors, JournalIsHistory, JournalIsTaken, LawPinsAnswers, RunsArePlain, AccountIsIsolated, RunsAreLawful, SetUpRefusedKeeps, ReadElsewhereKeeps, CommitElsewhereKeeps, ConflictAloneEnds, CapIsNeverMet}
use Rattle.isolation.proofs.Theorems.{lawful_is_isolated}
use Rattle.isolation.specs.Account.{fresh}
use Rattle.transactions.specs.Calls.{after_set_up}
use Rattle.transactions.specs.Choosing.{stamps_of}
use Rattle.transactions.specs.Watched.{Watched}
use Rattle.transactions.proofs.Seen.{watched_stamped}
use Rattle.transactions.proofs.SettingUp.{set_up_watched}
use Rattle.transactions.proofs.Opening.{open_law, open_watched}
use Rattle.transactions.proofs.ReadCall.{read_law}
use Rattle.transactions.proofs.ReadKept.{read_watched}
use Rattle.transactions.proofs.Drafting.{draft_law, draft_watched}
use Rattle.transactions.proofs.CommitCall.{commit_law}
use Rattle.transactions.proofs.CommitKept.{commit_watched}
use Rattle.transactions.proofs.Journaling.{journal_rules}
use Rattle.transactions.proofs.Taken.{file_taken}
use Rattle.transactions.proofs.Clean.{journal_clean}
use Rattle.transactions.proofs.Pinned.{reads_pinned, drafts_pinned, ends_pinned}
use Rattle.transactions.proofs.Plainly.{same_version, numbered}
use Rattle.transactions.proofs.OwnWords.{own_words}
use Rattle.transactions.proofs.Runs.{carried_lawful, run_since}
use Rattle.transactions.proofs.Elsewhere.{conflict_ends, refused_set_up, read_elsewhere_law, read_elsewhere_watched, commit_elsewhere_law, commit_elsewhere_watched}
use Rattle.transactions.proofs.Granting.{count_room}
use Rattle.transactions.proofs.CommitCall.{granted_room}
use Rattle.transactions.proofs.Ending.{abandon_law, abandon_watched, close_watched}

pub set_up_begins : SetUpBegins
set_up_begins m b s e = set_up_watched m s b e

pub refused_set_up_keeps : SetUpRefusedKeeps
refused_set_up_keeps a m n b f w e = subst (Watched a m) (sym (refused_set_up n b f e)) w

pub read_elsewhere_keeps : ReadElsewhereKeeps
read_elsewhere_keeps a m n b t x f w e = (read_elsewhere_law a m n b w t x f e, read_elsewhere_watched a m n b w t x f e)

pub commit_elsewhere_keeps : CommitElsewhereKeeps
commit_elsewhere_keeps a m n b t f w e = (commit_elsewhere_law a m n b w t f e, commit_elsewhere_watched a m n b w t f e)

pub conflict_alone_ends : ConflictAloneEnds
conflict_alone_ends f = conflict_ends f

pub cap_is_never_met : CapIsNeverMet
cap_is_never_met a m b t y s w o e d = count_room a m w.shelved w.lawful t s (granted_room a m b w t o e) y d

pub open_keeps : OpenKeeps
open_keeps a m b c w o = (open_law a m b w, open_watched a m b w c o)

pub read_keeps : ReadKeeps
read_keeps a m b t x w = (read_law a m b w t x, read_watched a m b w t x)

pub draft_keeps : DraftKeeps
draft_keeps a m b t x v w = (draft_law a m b w t x, draft_watched a m b w t x v)

pub commit_keeps : CommitKeeps
commit_keeps a m b t s w = (commit_law a m b w t, commit_watched a m b s w t)

pub abandon_keeps : AbandonKeeps
abandon_keeps a m b t w = (abandon_law a m b w t, abandon_watched a m b w t)

pub close_keeps : CloseKeeps
close_keeps a m b w = close_watched a m b w

pub shelf_is_told : ShelfIsTold
shelf_is_told a m b w = w.shelved

pub stamps_are_vectors : StampsAreVectors
stamps_are_vectors a m b w = watched_stamped a m b w

pub journal_is_history : JournalIsHistory
journal_is_history a m b w =
    (journal_rules a b.journal w.journaled, journal_clean a (stamps_of m) w.lawful b.journal w.journaled)

pub account_is_isolated : AccountIsIsolated
account_is_isolated a m b w = lawful_is_isolated a (stamps_of m) w.lawful

pub runs_are_lawful : RunsAreLawful
runs_are_lawful m n b c ss s e r =
    let (l, w, q) = carried_lawful (fresh m.cards) m (after_set_up b m) (set_up_begins m b s e) s r in
    (l, w)

pub journal_is_taken : JournalIsTaken
journal_is_taken a m b bs w h = file_taken bs b.journal (journal_rules a b.journal w.journaled) h

pub law_pins_answers : LawPinsAnswers
law_pins_answers = record { of_reads = reads_pinned; of_drafts = drafts_pinned; of_ends = ends_pinned }

pub runs_are_plain : RunsArePlain
runs_are_plain = record {
  plain = λ n ss h l. record {
    again = λ i j t x p q e f. same_version (fresh n) ss i j t x p q h l e f;
    own_words = λ i j t x v q e f lt none. own_words (fresh n) ss i j t x v q h l e f lt none;
    numbered = λ i k e. omega (arith, numbered (fresh n) ss i k h l e);
  };
  since = λ a n rs ss l. run_since a n rs ss l;
}
