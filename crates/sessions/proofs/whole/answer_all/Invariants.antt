use Rattle.std.proofs.Common.{◌≡◌, ◌≤◌, length, take, drop, vec_len, vec_capacity, vec_items}
use Rattle.sessions.specs.Exactly.{Ran}
use Rattle.sessions.specs.Holding.{held}
use Rattle.sessions.specs.Room.{HasRoom}
use Rattle.sessions.proofs.whole.answer_all.Given as goal

abbrev pub invariant-loop-command : goal.invariant-loop-command
invariant-loop-command g l = record {
  ran :
      Ran (g.S.Shelf.meaning l.initial.shelf) (held l.initial.session).books (take l.command-index l.script) (vec_items l.answers)
      (g.S.Shelf.meaning l.shelf) (held l.session);
  room : HasRoom l.session (drop l.command-index l.script);
  count : vec_len l.answers ≡ l.command-index;
  reserved : length l.script ≤ vec_capacity l.answers;
}
