use Rattle.std.proofs.Common.{◌≡◌, false, ◌||◌, eqb, ltb, length, get_or, sym, ap, ◌∙◌, arith}
use Rattle.std.proofs.lemmas.List.{length-map}
use Rattle.std.proofs.lemmas.Bool.{ltb-true}
use Rattle.isolation.specs.Account.{drafted}
use Rattle.entries.specs.Contents.{drafting, draft_cards}
use Rattle.tables.specs.Tables.{list_of, at}
use Rattle.entries.proofs.Drafts.{drafting_cards, drafted_any, found_card}
use Rattle.entries.proofs.Last.{last_at_none}
use Rattle.tables.proofs.table.OpenTable.set_draft.Goals as goal

pub replace_draft-requires : goal.replace_draft-requires
replace_draft-requires c =
    let es = c.drafts.result.now in
    let x = c.args.draft.card.0 in
    let j = c.in-Some.nth in
    let found = found_card (λ e. e.card.0) es x j c.args.draft (sym c.last_with.ensures ∙ c.in-Some.is) in
    let are = c.drafts.ensures ∙ ap (λ o. o.drafts) c.at.ensures in
    record {
      taken = c.requires.taken;
      there = omega (arith, found.0, length-map es drafting, ap length are);
      same = ap (λ l. get_or (draft_cards l) j 0) (sym are) ∙ ap (λ l. get_or l j 0) (drafting_cards es) ∙ found.1;
    }

pub add_draft-requires : goal.add_draft-requires
add_draft-requires c =
    let es = c.drafts.result.now in
    let x = c.args.draft.card.0 in
    let none = last_at_none (λ e. eqb e.card.0 x) es (sym c.last_with.ensures ∙ c.in-None.is) in
    let ds = (at (list_of c.args.self.now) c.args.place).drafts in
    let out : drafted ds x ≡ false = ap (λ l. drafted l x) (sym (c.drafts.ensures ∙ ap (λ o. o.drafts) c.at.ensures)) ∙ sym (drafted_any es x) ∙ none in
    record {
      taken = c.requires.taken;
      listed = c.requires.listed;
      few = ltb-true (length ds) 32 (sym (ap (λ b. b || ltb (length ds) 32) out) ∙ c.requires.few);
      undrafted = out;
    }
