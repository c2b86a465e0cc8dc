use Rattle.std.proofs.Common.{◌≡◌, length, set, None, sym, ap, ◌∙◌, arith}
use Rattle.std.proofs.lemmas.List.{length-map}
use Rattle.std.proofs.lemmas.Bool.{eqb-true, eqb-false}
use Rattle.transactions.specs.State.{with_places}
use Rattle.transactions.specs.Committing.{with_journal}
use Rattle.journals.specs.Journals.{log_of}
use Rattle.entries.specs.Contents.{drafting}
use Rattle.books.specs.States.{state_of, state_with}
use Rattle.tables.specs.Tables.{at}
use Rattle.books.proofs.CommitCases.{commit_some, shelf_none, shelf_some, journal_none, journal_some}
use Rattle.books.proofs.books.Books.carry_out.Goals as goal

pub returns-then-is_empty : goal.returns-then-is_empty
returns-then-is_empty g c =
    let b = state_of c.args.self.now in
    let m = g.S.Shelf.meaning c.args.shelf.now in
    let p = c.args.place in
    let o = at b.places p in
    let es = c.drafts.result.now in
    let many : length o.drafts ≡ length es = ap length (sym (c.drafts.ensures ∙ ap (λ l. l.drafts) c.at.ensures)) ∙ length-map es drafting in
    let none : length o.drafts ≡ 0 = omega (arith, many, eqb-true (length es) 0 (sym c.is_empty.ensures ∙ c.if-is_empty.true)) in
    record {
      shelf = sym (shelf_none b m o o.drafts none);
      books =
          ap (λ t. state_with t c.args.self.now.width c.args.self.now.given (log_of c.args.self.now.journal)) c.release.ensures
          ∙ ap (with_journal (with_places b (set b.places p None))) (sym (journal_none b m o o.drafts none));
    }

pub write_out-requires : goal.write_out-requires
write_out-requires g c =
    let b = state_of c.args.self.now in
    let m = g.S.Shelf.meaning c.args.shelf.now in
    let p = c.args.place in
    let o = at b.places p in
    let es = c.drafts.result.now in
    let many : length o.drafts ≡ length es = ap length (sym (c.drafts.ensures ∙ ap (λ l. l.drafts) c.at.ensures)) ∙ length-map es drafting in
    let some : length o.drafts ≡ 0 → ⊥ =
    λ (e : length o.drafts ≡ 0). eqb-false (length es) 0 (sym c.is_empty.ensures ∙ c.if-is_empty.false) (omega (arith, many)) in
    record { taken = c.requires.taken; number = c.requires.number; granted = sym (commit_some b m o o.drafts some) ∙ c.requires.granted }

pub returns : goal.returns
returns g c =
    let b = state_of c.args.self.now in
    let m = g.S.Shelf.meaning c.args.shelf.now in
    let p = c.args.place in
    let o = at b.places p in
    let es = c.drafts.result.now in
    let many : length o.drafts ≡ length es = ap length (sym (c.drafts.ensures ∙ ap (λ l. l.drafts) c.at.ensures)) ∙ length-map es drafting in
    let some : length o.drafts ≡ 0 → ⊥ =
    λ (e : length o.drafts ≡ 0). eqb-false (length es) 0 (sym c.is_empty.ensures ∙ c.if-is_empty.false) (omega (arith, many)) in
    let w = c.write_out.new.self in
    record {
      shelf = c.write_out.ensures.shelf ∙ sym (shelf_some b m o o.drafts some);
      books =
          ap (λ t. state_with t w.width w.given (log_of w.journal)) c.release-2.ensures
          ∙ ap (λ s. with_places s (set s.places p None)) c.write_out.ensures.books
          ∙ ap (with_journal (with_places b (set b.places p None))) (sym (journal_some b m o o.drafts some));
    }
