use Rattle.std.proofs.Common.{map, ap, ◌∙◌, arith}
use Rattle.stamps.specs.Counts.{bumped}
use Rattle.stamps.specs.Entries.{entries}
use Rattle.entries.specs.declared.entries.DraftEntry.{DraftEntry}
use Rattle.entries.specs.Contents.{drafting}
use Rattle.committing.specs.Stamping.{bump_all}
use Rattle.committing.proofs.Stamps.{bump_more, bump_end}
use Rattle.committing.proofs.new_stamp.bump_drafts.Goals as goal

abbrev none : DraftEntry
none = record { card = record { 0 = 0 }; value = record { first = 0; second = 0 } }

pub loop-draft-preserved : goal.loop-draft-preserved
loop-draft-preserved c =
    bump_more c.args.drafts.now c.loop-draft.draft-index none (entries c.loop-draft.stamp) (entries c.bump.new.self)
    (bump_all (entries c.args.stamp.now) (map drafting c.args.drafts.now)) c.loop-draft-test.true
    (c.bump.ensures ∙ ap (bumped (entries c.loop-draft.stamp)) (omega arith)) c.loop-draft.invariant

pub returns : goal.returns
returns c =
    bump_end c.args.drafts.now c.loop-draft.draft-index (entries c.loop-draft.stamp)
    (bump_all (entries c.args.stamp.now) (map drafting c.args.drafts.now)) c.loop-draft-test.false c.loop-draft.invariant
