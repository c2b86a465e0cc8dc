use Rattle.plain.proofs.EveryLaws.{first_of_all}
use Rattle.plain.proofs.every.EveryPlaceWalk.newest_from.Goals as goal

pub returns : goal.returns
returns c = first_of_all c.args.self.now.count c.checked_sub.result c.checked_sub.ensures
