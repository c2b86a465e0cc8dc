use Rattle.std.proofs.Common.{◌+◌, drop, vec_items, ap, subst, arith}
use Rattle.std.proofs.lemmas.List.{nil_from_length, drop_more}
use Rattle.sessions.specs.declared.command.Command.TheVariants as commands
use Rattle.sessions.specs.Exactly.{Held}
use Rattle.sessions.specs.Holding.{held}
use Rattle.sessions.specs.Room.{HasRoom}
use Rattle.sessions.proofs.Grown.{ran_none, ran_more, ran_all}
use Rattle.sessions.proofs.Rooms.{room_left, room_first}
use Rattle.sessions.proofs.whole.answer_all.Goals as goal

pub loop-command-init : goal.loop-command-init
loop-command-init g c =
    let answers = c.args.answers.now in
    record {
      ran =
          ran_none (g.S.Shelf.meaning c.args.shelf.now) (held c.args.session.now) c.args.script.now (vec_items answers)
          (nil_from_length (vec_items answers) (omega (arith, answers.ok.0, c.requires.answers.empty))) (ap (λ (h : Held). h.slips) c.requires.new);
      room = c.requires.room;
      count = c.requires.answers.empty;
      reserved = c.requires.answers.room;
    }

pub answer-answer-requires : goal.answer-answer-requires
answer-answer-requires g c =
    let cs = c.args.script.now in
    let i = c.loop-command.command-index in
    room_first c.loop-command.session _ (drop (i + 1) cs)
    (subst (HasRoom c.loop-command.session) (drop_more cs i commands.SetUp c.loop-command-test.true) c.loop-command.invariant.room)

pub loop-command-preserved : goal.loop-command-preserved
loop-command-preserved g c =
    let cs = c.args.script.now in
    let i = c.loop-command.command-index in
    let here = c.loop-command.session in
    let m = g.S.Shelf.meaning c.loop-command.shelf in
    let n = g.S.Shelf.meaning c.answer-answer.new.shelf in
    let more = subst (HasRoom here) (drop_more cs i commands.SetUp c.loop-command-test.true) c.loop-command.invariant.room in
    record {
      ran =
          ran_more (g.S.Shelf.meaning c.args.shelf.now) m n (held c.args.session.now).books cs i (vec_items c.loop-command.answers)
          (vec_items c.push_reserved.new.self) (held here) (held c.answer-answer.new.self) commands.SetUp c.answer-answer.result
          c.loop-command-test.true (g.met.S.Shelf.sound c.loop-command.shelf) c.loop-command.invariant.ran c.answer-answer.ensures.replied
          c.push_reserved.ensures.items;
      room =
          room_left here c.answer-answer.new.self _ (drop (i + 1) cs) m n c.answer-answer.result c.answer-answer.ensures.replied
          c.answer-answer.ensures.room more;
      count = omega (arith, c.push_reserved.ensures.len, c.loop-command.invariant.count);
      reserved = omega (arith, c.push_reserved.ensures.capacity, c.loop-command.invariant.reserved);
    }

pub returns : goal.returns
returns g c =
    ran_all (g.S.Shelf.meaning c.args.shelf.now) (g.S.Shelf.meaning c.loop-command.shelf) (held c.args.session.now).books c.args.script.now
    c.loop-command.command-index (vec_items c.loop-command.answers) (held c.loop-command.session) (omega arith) c.loop-command.invariant.ran
