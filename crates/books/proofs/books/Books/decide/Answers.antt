use Rattle.std.proofs.Common.{◌≡◌, length, sym, ap, ◌∙◌, arith}
use Rattle.std.proofs.lemmas.List.{length-map}
use Rattle.std.proofs.lemmas.Bool.{eqb-true, eqb-false}
use Rattle.entries.specs.Contents.{drafting}
use Rattle.books.specs.States.{state_of}
use Rattle.tables.specs.Tables.{at}
use Rattle.books.proofs.CommitCases.{commit_none, commit_some}
use Rattle.books.proofs.books.Books.decide.Goals as goal

pub returns-then-is_empty : goal.returns-then-is_empty
returns-then-is_empty g c =
    let b = state_of c.args.self.now in
    let m = g.S.Shelf.meaning c.args.shelf.now in
    let o = at b.places c.args.place in
    let es = c.drafts.result.now in
    let many : length o.drafts ≡ length es = ap length (sym (c.drafts.ensures ∙ ap (λ l. l.drafts) c.at.ensures)) ∙ length-map es drafting in
    sym (commit_none b m o o.drafts (omega (arith, many, eqb-true (length es) 0 (sym c.is_empty.ensures ∙ c.if-is_empty.true))))

pub returns : goal.returns
returns g c =
    let b = state_of c.args.self.now in
    let m = g.S.Shelf.meaning c.args.shelf.now in
    let o = at b.places c.args.place in
    let es = c.drafts.result.now in
    let many : length o.drafts ≡ length es = ap length (sym (c.drafts.ensures ∙ ap (λ l. l.drafts) c.at.ensures)) ∙ length-map es drafting in
    let some : length o.drafts ≡ 0 → ⊥ =
    λ (e : length o.drafts ≡ 0). eqb-false (length es) 0 (sym c.is_empty.ensures ∙ c.if-is_empty.false) (omega (arith, many)) in
    c.decide_drafts.ensures ∙ sym (commit_some b m o o.drafts some)
