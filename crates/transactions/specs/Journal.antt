-- What is promised of the journal: its lines are a history file that the judge finds clean. The
-- judge's law speaks of files in the same words. Assumes nothing.
--     FileRules ls               the lines ls obey the rules of a history file: good fields, good
--                                places, every transaction ended
--     InFile bs ls               the first records of the file bs read as the lines ls, in their order
--     JudgedClean ls             what the judge is asked holds of them: reads of committed versions, consistent snapshots, no write conflict
use Rattle.std.specs.Prelude.{List}
use Rattle.records.specs.declared.line.Line.{Line}
use Rattle.verdicts.specs.Verdicts.{CommittedReads, history_of}
use Rattle.isolation.specs.History.{ConsistentSnapshots, WriteConflictFree}
pub use Rattle.rules.specs.Lines.{FileRules}
pub use Rattle.rules.specs.FileLaw.{InFile}

pub record JudgedClean (ls : List Line) : Type 0 where
  pub aca : CommittedReads ls
  pub cons : ConsistentSnapshots (history_of ls)
  pub wcf : WriteConflictFree (history_of ls)
