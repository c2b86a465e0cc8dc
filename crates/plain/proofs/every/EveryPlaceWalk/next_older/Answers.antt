use Rattle.plain.proofs.EveryLaws.{first_of_all}
use Rattle.plain.proofs.every.EveryPlaceWalk.next_older.Goals as goal

pub returns : goal.returns
returns c = λ node inside comes. first_of_all c.args.place c.checked_sub.result c.checked_sub.ensures
