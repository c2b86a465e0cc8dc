-- The slips that a session holds, in the order in which they came to hand. A set-up leaves them: two
-- may then have one number, and a command means the one that came last. Assumes nothing.
--     is_for t s                  the slip s has the number t
--     holds xs t                  one of the slips xs has the number t
--     without xs t                the slips xs, less the last with the number t
--     with_returned xs q          the slips xs, with the one that a commit, answered q, hands back
--     call_slips xs e             the slips in hand after the call e: a granted open gives one, a
--                                 commit and an abandon take one; a commit that is refused hands it
--                                 back, but for a conflict, which spends it
--     slips_after xs a            the slips in hand after the answer a
use Rattle.std.specs.Prelude.{ℕ, Bool, cond, List, [], ◌∷◌, ◌++◌, Some, None, Ok, Err, Option, Result, ◌==◌}
use Rattle.std.specs.List.{remove}
use Rattle.stamps.specs.declared.numbers.TxNo.{TxNo}
use Rattle.transactions.specs.declared.event.Event.{Event}
use Rattle.transactions.specs.declared.event.Event.TheVariants as events
use Rattle.transactions.specs.declared.refusal.Refusal.{Refusal}
use Rattle.transactions.specs.Kept.{is_conflict}
use Rattle.transactions.specs.State.{last_at}
use Rattle.books.specs.declared.slip.Slip.{Slip}
use Rattle.books.specs.declared.slip.NotCommitted.{NotCommitted}
use Rattle.books.specs.declared.slip.NotCommitted.TheVariants.{HandedBack, Conflict}
use Rattle.std.specs.List.{list_any}
use Rattle.sessions.specs.declared.answer.Answer.{Answer}
use Rattle.sessions.specs.declared.answer.Answer.TheVariants as answers

abbrev pub is_for : ℕ → Slip → Bool
is_for t s = s.number.0 == t

abbrev pub holds : List Slip → ℕ → Bool
holds xs t = list_any (is_for t) xs

abbrev pub less : List Slip → Option ℕ → List Slip
less xs None = xs
less xs (Some i) = remove xs i

abbrev pub without : List Slip → ℕ → List Slip
without xs t = less xs (last_at (is_for t) xs)

abbrev pub slip_for : TxNo → Slip
slip_for t = record { number = t }

abbrev pub with_back : List Slip → NotCommitted → List Slip
with_back xs (HandedBack s f) = xs ++ (s ∷ [])
with_back xs Conflict = xs

abbrev pub with_returned : List Slip → Result (Unit {0}) NotCommitted → List Slip
with_returned xs (Ok u) = xs
with_returned xs (Err n) = with_back xs n

abbrev pub call_slips : List Slip → Event → List Slip
call_slips xs (events.Open (Ok t)) = xs ++ (slip_for t ∷ [])
call_slips xs (events.Open (Err f)) = xs
call_slips xs (events.Read t x r) = xs
call_slips xs (events.Draft t x v r) = xs
call_slips xs (events.Commit t (Ok u)) = without xs t.0
call_slips xs (events.Commit t (Err f)) = cond (is_conflict f) (without xs t.0) (without xs t.0 ++ (slip_for t ∷ []))
call_slips xs (events.Abandon t r) = without xs t.0
call_slips xs events.Close = xs

abbrev pub slips_after : List Slip → Answer → List Slip
slips_after xs (answers.SetUp r) = xs
slips_after xs (answers.Call e) = call_slips xs e
slips_after xs answers.NoSlip = xs
slips_after xs (answers.Versions x r) = xs
slips_after xs (answers.Stamp x k r) = xs
slips_after xs (answers.Journal ls) = xs
