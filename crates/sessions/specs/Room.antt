-- The room that a session has for the commands to come. Assumes nothing.
--     asks_journal c          the command c asks for the journal
--     IsEmptyFor n v          the list v is empty, with room for n elements
--     HasRoom s cs            the session s has room for the commands cs: for a slip from each, and a
--                             list for each journal, with room for all lines that the books take
--     JournalsLeft c xs ys    of the lists xs the command c leaves ys: a journal takes one
--     RoomLeft s c t          the session s, after the command c, is t, with the room that is left
--     IsReady s cs v          the session s has new books, no slip, and room for the commands cs;
--                             the list v has room for their answers
use Rattle.std.specs.Prelude.{◌≡◌, ℕ, ◌+◌, ◌≤◌, Bool, true, false, cond, List, [], ◌∷◌, ◌++◌, length, count_by, All, vec_len, vec_capacity, vec_items}
use Rattle.std.specs.Global.{Vec}
use Rattle.records.specs.declared.line.Line.{Line}
use Rattle.books.specs.States.{new_state}
use Rattle.sessions.specs.declared.answer.Answer.{Answer}
use Rattle.sessions.specs.declared.command.Command.{Command}
use Rattle.sessions.specs.declared.command.Command.TheVariants as commands
use Rattle.sessions.specs.declared.session.Session.{Session}
use Rattle.sessions.specs.Holding.{held}

abbrev pub asks_journal : Command → Bool
asks_journal commands.SetUp = false
asks_journal commands.Open = false
asks_journal (commands.Read t x) = false
asks_journal (commands.Draft t x v) = false
asks_journal (commands.Commit t) = false
asks_journal (commands.Abandon t) = false
asks_journal commands.Close = false
asks_journal (commands.Versions x) = false
asks_journal (commands.Stamp x k) = false
asks_journal commands.Journal = true

pub record IsEmptyFor {X : Type 0} (n : ℕ) (v : Vec X) : Type 0 where
  pub empty : vec_len v ≡ 0
  pub room : n ≤ vec_capacity v

pub record HasRoom (s : Session) (cs : List Command) : Type 0 where
  pub slips : vec_len s.slips + length cs ≤ vec_capacity s.slips
  pub journals : count_by asks_journal cs ≤ vec_len s.journals
  pub lines : All (IsEmptyFor (held s).books.sizes.lines) (vec_items s.journals)

abbrev pub JournalsLeft : Command → List (Vec Line) → List (Vec Line) → Type 0
JournalsLeft c xs ys = cond (asks_journal c) ((v : Vec Line) × (xs ≡ ys ++ (v ∷ []))) (ys ≡ xs)

pub record RoomLeft (s : Session) (c : Command) (t : Session) : Type 0 where
  pub slips : vec_capacity t.slips ≡ vec_capacity s.slips
  pub journals : JournalsLeft c (vec_items s.journals) (vec_items t.journals)

pub record IsReady (s : Session) (cs : List Command) (v : Vec Answer) : Type 0 where
  pub new : held s ≡ record { books = new_state (held s).books.sizes; slips = [] }
  pub room : HasRoom s cs
  pub answers : IsEmptyFor (length cs) v
