use Rattle.std.proofs.Common.{◌≡◌, map, drop}
use Rattle.stamps.specs.Entries.{entries}
use Rattle.entries.specs.Contents.{drafting}
use Rattle.committing.specs.Stamping.{bump_all}
use Rattle.committing.proofs.new_stamp.bump_drafts.Given as goal

abbrev pub invariant-loop-draft : goal.invariant-loop-draft
invariant-loop-draft l =
    bump_all (entries l.stamp) (map drafting (drop l.draft-index l.drafts)) ≡ bump_all (entries l.initial.stamp) (map drafting l.drafts)
