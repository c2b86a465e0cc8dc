use Rattle.std.proofs.Common.{ap, ◌∙◌, arith}
use Rattle.entries.specs.Numbers.{last_of}
use Rattle.sessions.specs.Slips.{is_for}
use Rattle.sessions.proofs.Holding.{shown}
use Rattle.sessions.proofs.slips.slip_of.Goals as goal

pub returns : goal.returns
returns c =
    shown c.args.slips.now c.args.number c.last_entry.result (c.last_entry.ensures ∙ ap (λ t. last_of (is_for t) c.args.slips.now) (omega arith))
