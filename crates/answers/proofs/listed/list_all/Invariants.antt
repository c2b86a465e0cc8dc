use Rattle.digest.specs.Links.{Linked}
use Rattle.answers.specs.Questions.{own_node, writ_node}
use Rattle.answers.proofs.listed.list_all.Given as goal

abbrev pub invariant-loop-entry : goal.invariant-loop-entry
invariant-loop-entry g l = record {
  owners : Linked (g.W.Walk.count l.own) (g.W.Walk.comes l.own) own_node l.entries l.entry-index;
  cards : Linked (g.W.Walk.count l.writs) (g.W.Walk.comes l.writs) writ_node l.entries l.entry-index;
}
