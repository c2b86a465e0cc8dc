use Rattle.std.proofs.Common.{◌≡◌, true, not, ◌||◌, ltb, length, sym, ap, ◌∙◌, arith}
use Rattle.std.proofs.lemmas.List.{length-map}
use Rattle.std.proofs.lemmas.Bool.{or_left, or_right, lt-ltb}
use Rattle.isolation.specs.Account.{drafted, draft_of}
use Rattle.transactions.specs.Choosing.{version_read}
use Rattle.entries.specs.Contents.{drafting}
use Rattle.books.specs.States.{state_of}
use Rattle.tables.specs.Tables.{at}
use Rattle.entries.proofs.Drafts.{read_found, draft_found}
use Rattle.books.proofs.CallCases.{draft_unread, draft_out, draft_granted}
use Rattle.books.proofs.books.Books.may_draft.Goals as goal
use Rattle.books.proofs.books.Books.may_draft.Goals.{else-drafts-ge-DRAFTS-via-then-drafts-ge-DRAFTS+else-is_none-2, else-drafts-ge-DRAFTS-via-else-drafts-ge-DRAFTS}

pub returns-then-is_none : goal.returns-then-is_none
returns-then-is_none c =
    let b = state_of c.args.self.now in
    let x = c.args.card.0 in
    let o = at b.places c.args.place in
    let found = c.version_read.ensures ∙ ap (λ l. version_read l.reads x) c.at-here.ensures in
    let out = read_found o.reads x c.version_read.result found ∙ c.is_none.ensures ∙ ap not c.if-is_none.true in
    sym (draft_unread b x o (omega (arith, c.if-card-cards.false, c.cards.ensures)) out)

pub returns : goal.returns
returns c =
    let b = state_of c.args.self.now in
    let x = c.args.card.0 in
    let o = at b.places c.args.place in
    let es = c.drafts.result.now in
    let many : length o.drafts ≡ length es = ap length (sym (c.drafts.ensures ∙ ap (λ l. l.drafts) c.at-here.ensures)) ∙ length-map es drafting in
    let found = c.version_read.ensures ∙ ap (λ l. version_read l.reads x) c.at-here.ensures in
    let read = read_found o.reads x c.version_read.result found ∙ c.is_none.ensures ∙ ap not c.if-is_none.false in
    let few : (drafted o.drafts x || ltb (length o.drafts) 32) ≡ true =
    elim c.else-drafts-ge-DRAFTS.branch [
      | else-drafts-ge-DRAFTS-via-then-drafts-ge-DRAFTS+else-is_none-2 w ↦
          or_left (drafted o.drafts x) (ltb (length o.drafts) 32)
          (draft_found o.drafts x w.draft_of.result (λ v. w.draft_of.ensures v ∙ ap (λ l. draft_of l.drafts x v) c.at-here.ensures)
          ∙ w.is_none-then-drafts-ge-DRAFTS.ensures ∙ ap not w.if-is_none-2.false)
      | else-drafts-ge-DRAFTS-via-else-drafts-ge-DRAFTS w ↦
          or_right (drafted o.drafts x) (ltb (length o.drafts) 32) (lt-ltb (length o.drafts) 32 (omega (arith, many, w.if-drafts-ge-DRAFTS.false)))
    ] in
    sym (draft_granted b x o (omega (arith, c.if-card-cards.false, c.cards.ensures)) read few)

pub returns-then-is_none-2 : goal.returns-then-is_none-2
returns-then-is_none-2 c =
    let b = state_of c.args.self.now in
    let x = c.args.card.0 in
    let o = at b.places c.args.place in
    let es = c.drafts.result.now in
    let many : length o.drafts ≡ length es = ap length (sym (c.drafts.ensures ∙ ap (λ l. l.drafts) c.at-here.ensures)) ∙ length-map es drafting in
    let found = c.version_read.ensures ∙ ap (λ l. version_read l.reads x) c.at-here.ensures in
    let read = read_found o.reads x c.version_read.result found ∙ c.is_none.ensures ∙ ap not c.if-is_none.false in
    let new =
    draft_found o.drafts x c.draft_of.result (λ v. c.draft_of.ensures v ∙ ap (λ l. draft_of l.drafts x v) c.at-here.ensures)
    ∙ c.is_none-then-drafts-ge-DRAFTS.ensures ∙ ap not c.if-is_none-2.true in
    sym (draft_out b x o (omega (arith, c.if-card-cards.false, c.cards.ensures)) read new (omega (arith, many, c.if-drafts-ge-DRAFTS.true)))
