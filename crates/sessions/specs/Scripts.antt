-- What the answers to a script tell, and which answer is one to a command. Assumes nothing.
--     SoFar                      what is told so far: the account, from the last granted set-up on,
--                                 and the slips in hand, also those of earlier accounts
--     nothing_yet                 before the first command: no set-up was granted, and no slip is in hand
--     told_by n p a               what is told after the answer a, on a shelf of n cards
--     told n p rs                 what is told after the answers rs
--     AnswersTo xs c a           a is an answer to the command c, with the slips xs in hand: `NoSlip`
--                                 exactly where the slip is wanting, else what the call or the
--                                 question that was asked for answered
use Rattle.std.specs.Prelude.{◌≡◌, ℕ, Bool, true, false, cond, List, [], ◌∷◌, Some, None, Ok, Err, Option, Result}
use Rattle.std.specs.Option.{option_map}
use Rattle.stamps.specs.declared.stamp.Stamp.{Stamp}
use Rattle.stamps.specs.declared.numbers.TxNo.{TxNo}
use Rattle.isolation.specs.Account.{Account, fresh}
use Rattle.transactions.specs.declared.event.Event.TheVariants as events
use Rattle.transactions.specs.declared.reading.Reading.{Reading}
use Rattle.transactions.specs.declared.refusal.Refusal.{Refusal}
use Rattle.transactions.specs.Run.{after_event}
use Rattle.books.specs.declared.slip.Slip.{Slip}
use Rattle.sessions.specs.declared.answer.Answer.{Answer}
use Rattle.sessions.specs.declared.answer.Answer.TheVariants as answers
use Rattle.sessions.specs.declared.command.Command.{Command}
use Rattle.sessions.specs.declared.command.Command.TheVariants as commands
use Rattle.sessions.specs.Slips.{holds, slips_after}

pub record SoFar : Type 0 where
  pub account : Option Account
  pub slips : List Slip

abbrev pub nothing_yet : SoFar
nothing_yet = record { account = None; slips = [] }

-- a granted set-up begins an account; a call goes on with it, and all else leaves it
abbrev pub account_by : ℕ → Option Account → Answer → Option Account
account_by n o (answers.SetUp (Ok u)) = Some (fresh n)
account_by n o (answers.SetUp (Err f)) = o
account_by n o (answers.Call e) = option_map (λ a. after_event a e) o
account_by n o answers.NoSlip = o
account_by n o (answers.Versions x r) = o
account_by n o (answers.Stamp x k r) = o
account_by n o (answers.Journal ls) = o

abbrev pub told_by : ℕ → SoFar → Answer → SoFar
told_by n p a = record { account = account_by n p.account a; slips = slips_after p.slips a }

abbrev pub told : ℕ → SoFar → List Answer → SoFar
told n p [] = p
told n p (a ∷ rs) = told n (told_by n p a) rs

-- an answer of the form P where a slip of t is in hand
abbrev pub WithSlip : List Slip → TxNo → Answer → Type 0 → Type 0
WithSlip xs t a P = cond (holds xs t.0) P (a ≡ answers.NoSlip)

-- the lines of the journal
abbrev pub is_journal : Answer → Bool
is_journal (answers.SetUp r) = false
is_journal (answers.Call e) = false
is_journal answers.NoSlip = false
is_journal (answers.Versions x r) = false
is_journal (answers.Stamp x k r) = false
is_journal (answers.Journal ls) = true

abbrev pub AnswersTo : List Slip → Command → Answer → Type 0
AnswersTo xs commands.SetUp a = (r : Result (Unit {0}) Refusal) × (a ≡ answers.SetUp r)
AnswersTo xs commands.Open a = (r : Result TxNo Refusal) × (a ≡ answers.Call (events.Open r))
AnswersTo xs (commands.Read t x) a = WithSlip xs t a ((r : Result Reading Refusal) × (a ≡ answers.Call (events.Read t x r)))
AnswersTo xs (commands.Draft t x v) a = WithSlip xs t a ((r : Result (Unit {0}) Refusal) × (a ≡ answers.Call (events.Draft t x v r)))
AnswersTo xs (commands.Commit t) a = WithSlip xs t a ((r : Result (Unit {0}) Refusal) × (a ≡ answers.Call (events.Commit t r)))
AnswersTo xs (commands.Abandon t) a = WithSlip xs t a ((r : Result (Unit {0}) Refusal) × (a ≡ answers.Call (events.Abandon t r)))
AnswersTo xs commands.Close a = a ≡ answers.Call events.Close
AnswersTo xs (commands.Versions x) a = (r : Option ℕ) × (a ≡ answers.Versions x r)
AnswersTo xs (commands.Stamp x k) a = (r : Option Stamp) × (a ≡ answers.Stamp x k r)
AnswersTo xs commands.Journal a = is_journal a ≡ true
