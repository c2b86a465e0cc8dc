use Rattle.std.proofs.Common.{◌≡◌, ◌≤◌, map}
use Rattle.transactions.specs.Committing.{put_cards}
use Rattle.entries.specs.Contents.{reading, drafting, opening}
use Rattle.committing.proofs.shelf_writes.put_drafts.Given as goal

abbrev pub invariant-loop-draft : goal.invariant-loop-draft
invariant-loop-draft g l =
    (l.draft-iterator.entries.now ≡ l.drafts)
    × (g.S.Shelf.meaning l.shelf
    ≡ put_cards (g.S.Shelf.meaning l.initial.shelf) (opening l.writer.0 (map reading l.reads) (map drafting l.drafts)) l.draft-iterator.from)
    × (l.draft-iterator.from ≤ (g.S.Shelf.meaning l.initial.shelf).cards)
