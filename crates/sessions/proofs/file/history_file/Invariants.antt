use Rattle.std.proofs.Common.{◌≡◌, ◌*◌, ◌≤◌, length, take, vec_len, vec_capacity, vec_items}
use Rattle.sessions.proofs.Filing.{Made}
use Rattle.sessions.proofs.file.history_file.Given as goal

abbrev pub invariant-loop-line : goal.invariant-loop-line
invariant-loop-line l = record {
  made : Made (take l.line-index l.lines) (vec_items l.bytes);
  size : vec_len l.bytes ≡ l.line-index * 32;
  room : length l.lines * 32 ≤ vec_capacity l.bytes;
}
