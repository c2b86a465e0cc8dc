use Rattle.std.proofs.Common.{◌≡◌, ap, ◌∙◌, rules}
use Rattle.std.specs.Option.{option_map, unwrap_or}
use Rattle.isolation.specs.Account.{draft_of}
use Rattle.entries.specs.Numbers.{apart}
use Rattle.entries.specs.Contents.{draft_cards}
use Rattle.entries.proofs.Drafts.{last_words}
use Rattle.tables.proofs.Entering.{neat_at}
use Rattle.tables.proofs.Places.{seen_once}
use Rattle.tables.proofs.table.open_at.OpenAt.draft_of.Goals as goal

pub returns : goal.returns
returns c = λ v.
    let t = c.args.self.now.table.now in
    let es = c.drafts.result.now in
    let x = c.args.card.0 in
    let ok = ap (λ l. apart t.reads.width (draft_cards l)) c.drafts.ensures ∙ (neat_at t c.args.self.now.place).1 in
    let told : c.map.result ≡ option_map (λ e. e.now.value) c.last_entry.result = search rules in
    ap (λ o. unwrap_or o v) (told ∙ seen_once (λ e. e.value) c.last_entry.result ∙ ap (option_map (λ e. e.value)) c.last_entry.ensures)
    ∙ last_words t.reads.width es x v ok ∙ ap (λ l. draft_of l x v) c.drafts.ensures
