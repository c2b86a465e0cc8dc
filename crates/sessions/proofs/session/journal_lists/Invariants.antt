use Rattle.std.proofs.Common.{◌≡◌, take, All, count_by, vec_len, vec_items}
use Rattle.sessions.specs.Room.{asks_journal, IsEmptyFor}
use Rattle.sessions.proofs.session.journal_lists.Given as goal

abbrev pub invariant-loop-command : goal.invariant-loop-command
invariant-loop-command l = record {
  count : vec_len l.lists ≡ count_by asks_journal (take l.command-index l.script);
  room : All (IsEmptyFor l.lines) (vec_items l.lists);
}
