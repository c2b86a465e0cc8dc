-- The law of a whole session: of its answers, and of the shelf that it leaves. Assumes nothing.
--     Ends m a                    the shelf m in the end: it holds the versions of the account a, with
--                                 their dependence vectors, and the account is isolated
--     SessionLaw m cs rs n       the answers rs to the script cs on the shelf m are lawful, and leave
--                                 the shelf n
use Rattle.std.specs.Prelude.{List}
use Rattle.shelf.specs.Meaning.{Meaning}
use Rattle.isolation.specs.Account.{Account}
use Rattle.isolation.specs.Theorems.{Isolated}
use Rattle.transactions.specs.Shelved.{Shelved, Stamped}
use Rattle.sessions.specs.declared.answer.Answer.{Answer}
use Rattle.sessions.specs.declared.command.Command.{Command}
use Rattle.sessions.specs.Scripts.{nothing_yet, told}
use Rattle.sessions.specs.Laws.{On, LawfulSession}

pub record Ends (m : Meaning) (a : Account) : Type 0 where
  pub shelf : Shelved a m
  pub stamps : Stamped a m
  pub isolated : Isolated a

pub record SessionLaw (m : Meaning) (cs : List Command) (rs : List Answer) (n : Meaning) : Type 0 where
  pub lawful : LawfulSession m.cards nothing_yet cs rs
  pub ends : On (told m.cards nothing_yet rs).account (Ends n)
