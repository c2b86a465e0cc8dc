-- The law of a session's answers, over the commands, the answers and the account that is folded from
-- them: no shelf and no book is in it. Assumes nothing.
--     On o P                      P holds of the account o, if there is one
--     VersionsLaw a x r          r is how many versions the account has of card x, none where the card is not listed
--     Vector a x k f              f is the dependence vector of version k of card x: it is part of a solution of the equations, and of every one
--     StampLaw a x k r           r is the dependence vector of version k of card x, none where there is no such version
--     JournalLaw a ls            the lines ls tell the account's commits, are a history file that obeys the rules, and the judge finds them clean
--     AnswerLaw o a               the answer a is lawful, where o is the account so far
--     LawfulSession n p cs rs    the answers rs, one to each of the commands cs, are lawful, each where those before it are told
use Rattle.std.specs.Prelude.{◌≡◌, ℕ, suc, ◌<◌, ◌≤◌, List, [], ◌∷◌, Some, None, vec_items, Option}
use Rattle.stamps.specs.declared.stamp.Stamp.{Stamp}
use Rattle.stamps.specs.Entries.{entries}
use Rattle.records.specs.declared.line.Line.{Line}
use Rattle.isolation.specs.Account.{Account}
use Rattle.isolation.specs.Vectors.{Stamps, Vectors, Alike}
use Rattle.transactions.specs.Journal.{FileRules, JudgedClean}
use Rattle.transactions.specs.Journaled.{Journaled}
use Rattle.transactions.specs.Run.{EventLaw}
use Rattle.sessions.specs.declared.answer.Answer.{Answer}
use Rattle.sessions.specs.declared.answer.Answer.TheVariants as answers
use Rattle.sessions.specs.declared.command.Command.{Command}
use Rattle.sessions.specs.Scripts.{SoFar, told_by, AnswersTo}

abbrev pub On : Option Account → (Account → Type 0) → Type 0
On None P = Unit {0}
On (Some a) P = P a

pub record VersionsLaw (a : Account) (x : ℕ) (r : Option ℕ) : Type 0 where
  pub listed : x < a.listed → r ≡ Some (suc (a.newest x))
  pub unlisted : a.listed ≤ x → r ≡ None

pub record Vector (a : Account) (x k : ℕ) (f : ℕ → ℕ) : Type 0 where
  pub stamps : Stamps
  pub solves : Vectors a stamps
  pub alone : (s : Stamps) → Vectors a s → Alike a stamps s
  pub counts : (y : ℕ) → f y ≡ stamps x k y

pub record StampLaw (a : Account) (x k : ℕ) (r : Option Stamp) : Type 0 where
  pub there : x < a.listed → k ≤ a.newest x → (s : Stamp) × (r ≡ Some s) × Vector a x k (entries s)
  pub too_new : x < a.listed → a.newest x < k → r ≡ None
  pub unlisted : a.listed ≤ x → r ≡ None

pub record JournalLaw (a : Account) (ls : List Line) : Type 0 where
  pub tells : Journaled a ls
  pub rules : FileRules ls
  pub clean : JudgedClean ls

abbrev pub AnswerLaw : Option Account → Answer → Type 0
AnswerLaw o (answers.SetUp r) = Unit {0}
AnswerLaw o (answers.Call e) = On o (λ a. EventLaw a e)
AnswerLaw o answers.NoSlip = Unit {0}
AnswerLaw o (answers.Versions x r) = On o (λ a. VersionsLaw a x.0 r)
AnswerLaw o (answers.Stamp x k r) = On o (λ a. StampLaw a x.0 k.0 r)
AnswerLaw o (answers.Journal ls) = On o (λ a. JournalLaw a (vec_items ls))

abbrev pub LawfulSession : ℕ → SoFar → List Command → List Answer → Type 0
LawfulSession n p [] [] = Unit {0}
LawfulSession n p [] (a ∷ rs) = ⊥
LawfulSession n p (c ∷ cs) [] = ⊥
LawfulSession n p (c ∷ cs) (a ∷ rs) = AnswersTo p.slips c a × AnswerLaw p.account a × LawfulSession n (told_by n p a) cs rs
