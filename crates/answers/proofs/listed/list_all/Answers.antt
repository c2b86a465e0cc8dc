use Rattle.std.proofs.Common.{◌%◌, ◌<◌, Bool, true, false, cond, add-one, arith}
use Rattle.rules.specs.Rules.{is_writ}
use Rattle.digest.specs.declared.entry.Entry.{Entry}
use Rattle.digest.specs.Entries.{at}
use Rattle.digest.proofs.LinkLaws.{linked_none, linked_more}
use Rattle.answers.specs.Questions.{own_node, writ_node}
use Rattle.answers.proofs.listed.list_all.Goals as goal

node_small : (e : Entry) → writ_node e < 2048
node_small e = small (is_writ e.kind)
  where
    small : (b : Bool) → cond b (e.card.0 % 2048) 2047 < 2048
    small true = omega arith
    small false = omega arith

pub loop-entry-init : goal.loop-entry-init
loop-entry-init g c = record {
  owners = linked_none _ _ own_node c.args.entries.now c.requires.empty.0;
  cards = linked_none _ _ writ_node c.args.entries.now c.requires.empty.1;
}

pub loop-entry-preserved : goal.loop-entry-preserved
loop-entry-preserved g c =
    let es = c.args.entries.now in
    let n = c.loop-entry.entry-index in
    rw add-one (record {
      owners = linked_more _ _ _ _ own_node es n c.loop-entry.invariant.owners (record { more = c.list.ensures.more; here = c.list.ensures.here; kept = c.list.ensures.kept });
      cards = linked_more _ _ _ _ writ_node es n c.loop-entry.invariant.cards (rw (← c.card_node.ensures) (record {
        more = c.list-in-loop-entry.ensures.more;
        here = c.list-in-loop-entry.ensures.here;
        kept = c.list-in-loop-entry.ensures.kept;
      }));
    })

pub list-requires-clause-room : goal.list-requires-clause-room
list-requires-clause-room g c = omega (arith, c.loop-entry.invariant.owners.each, c.loop-entry-test.true, c.requires.few.1)

pub list-requires-clause-known : goal.list-requires-clause-known
list-requires-clause-known g c = omega (arith, c.requires.few.0.owner c.loop-entry.entry-index c.loop-entry-test.true, c.loop-entry-test.true, c.requires.few.1)

pub list-requires-in-loop-entry : goal.list-requires-in-loop-entry
list-requires-in-loop-entry g c = record {
  room = omega (arith, c.loop-entry.invariant.cards.each, c.loop-entry-test.true, c.requires.few.1);
  known = rw c.card_node.ensures (node_small (at c.args.entries.now c.loop-entry.entry-index));
}
