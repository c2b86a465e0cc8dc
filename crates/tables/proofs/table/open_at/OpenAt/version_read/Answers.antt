use Rattle.std.proofs.Common.{◌≡◌, ap, ◌∙◌, rules}
use Rattle.std.specs.Option.{option_map}
use Rattle.transactions.specs.Choosing.{version_read}
use Rattle.entries.specs.Numbers.{apart}
use Rattle.entries.specs.Contents.{read_cards}
use Rattle.entries.proofs.Drafts.{last_version}
use Rattle.tables.proofs.Entering.{neat_at}
use Rattle.tables.proofs.Places.{seen_through}
use Rattle.tables.proofs.table.open_at.OpenAt.version_read.Goals as goal

pub returns : goal.returns
returns c =
    let t = c.args.self.now.table.now in
    let es = c.reads.result.now in
    let x = c.args.card.0 in
    let ok = ap (λ l. apart t.reads.width (read_cards l)) c.reads.ensures ∙ (neat_at t c.args.self.now.place).0 in
    let told : c.map.result ≡ option_map (λ e. e.now.version) c.last_entry.result = search rules in
    ap (option_map (λ v. v.0)) told ∙ seen_through (λ e. e.version) (λ v. v.0) c.last_entry.result ∙ ap (option_map (λ e. e.version.0)) c.last_entry.ensures
    ∙ last_version t.reads.width es x ok ∙ ap (λ l. version_read l x) c.reads.ensures
