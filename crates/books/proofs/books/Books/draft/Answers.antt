use Rattle.std.proofs.Common.{Some, Err, sym, ap, ◌∙◌}
use Rattle.std.proofs.lemmas.Result.{err_from_is_err_and}
use Rattle.transactions.specs.State.{last_at, numbered, put_back, held}
use Rattle.transactions.specs.Calls.{draft_by, if_granted, with_words}
use Rattle.journals.specs.Journals.{log_of}
use Rattle.books.specs.States.{state_of, state_with}
use Rattle.tables.specs.Tables.{at, draft_set}
use Rattle.books.proofs.CallCases.{found_there, draft_passed}
use Rattle.books.proofs.Held.{holds_from, held_is, put_back_is}
use Rattle.books.proofs.books.Books.draft.Goals as goal

pub returns-in_err-may_draft : goal.returns-in_err-may_draft
returns-in_err-may_draft c =
    let b = state_of c.args.self.now in
    let n = c.args.slip.now.number.0 in
    let x = c.args.card.0 in
    let i = c.in_ok-place.place in
    let found = found_there (last_at (numbered n) b.places) i (sym c.place_of.ensures ∙ c.in_ok-place.was) in
    let p = err_from_is_err_and c.from_residual-in_err-may_draft.result c.from_residual-in_err-may_draft.ensures.1 in
    let answer = sym c.in_err-may_draft.was ∙ c.may_draft.ensures ∙ sym (ap (draft_by b x) (held_is b n i found)) in
    record {
      answer = p.1 ∙ ap Err p.2 ∙ answer;
      books = ap (λ r. if_granted r (put_back b n (with_words (held b n) x c.args.value)) b) answer;
    }

pub set_draft-requires : goal.set_draft-requires
set_draft-requires c =
    let b = state_of c.args.self.now in
    let n = c.args.slip.now.number.0 in
    let i = c.in_ok-place.place in
    let found = found_there (last_at (numbered n) b.places) i (sym c.place_of.ensures ∙ c.in_ok-place.was) in
    let passed = draft_passed b c.args.card.0 (at b.places i) (sym c.may_draft.ensures ∙ c.in_ok-may_draft.was) in
    record { taken = (holds_from b.places n i found).open_there; listed = passed.0; few = passed.2 }

pub returns : goal.returns
returns c =
    let s = c.args.self.now in
    let b = state_of s in
    let n = c.args.slip.now.number.0 in
    let x = c.args.card.0 in
    let v = c.args.value in
    let i = c.in_ok-place.place in
    let found = found_there (last_at (numbered n) b.places) i (sym c.place_of.ensures ∙ c.in_ok-place.was) in
    let answer = sym c.in_ok-may_draft.was ∙ c.may_draft.ensures ∙ sym (ap (draft_by b x) (held_is b n i found)) in
    record {
      answer = answer;
      books =
          ap (λ t. state_with t s.width s.given (log_of s.journal)) c.set_draft.ensures
          ∙ sym (put_back_is b n i (Some (draft_set (at b.places i) x v)) found)
          ∙ ap (λ o. put_back b n (with_words o x v)) (sym (held_is b n i found))
          ∙ ap (λ r. if_granted r (put_back b n (with_words (held b n) x v)) b) answer;
    }
