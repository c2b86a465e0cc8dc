use Rattle.std.proofs.Common.{◌≤◌, map, length, ap, ◌∙◌, arith}
use Rattle.std.proofs.lemmas.Grind.{common_steps}
use Rattle.std.proofs.lemmas.List.{length-map}
use Rattle.stamps.specs.Counts.{room}
use Rattle.transactions.specs.Committing.{crowded, put_cards, block}
use Rattle.journals.specs.Journals.{log_of, with_lines}
use Rattle.entries.specs.Numbers.{apart}
use Rattle.entries.specs.Contents.{reading, drafting, read_cards, draft_cards}
use Rattle.books.specs.States.{state_of, state_with}
use Rattle.tables.specs.Tables.{at, table_of}
use Rattle.books.proofs.CommitCases.{decide_passed, same_cards, opening_is}
use Rattle.tables.proofs.Entering.{neat_at}
use Rattle.entries.proofs.Walks.{apart_wider}
use Rattle.books.proofs.books.Books.write_out.Goals as goal

pub log_block-requires : goal.log_block-requires
log_block-requires g c =
    let t = c.args.self.now.table in
    let b = state_of c.args.self.now in
    let m = g.S.Shelf.meaning c.args.shelf.now in
    let p = c.args.place in
    let o = at b.places p in
    let passed = decide_passed b m o c.requires.granted in
    let neat = neat_at t p in
    let rs = c.reads-reads.ensures ∙ ap (λ l. l.reads) c.at-here.ensures in
    let ds = c.drafts-drafts.ensures ∙ ap (λ l. l.drafts) c.at-here.ensures in
    let modest : t.reads.width ≤ room = omega (arith, same_cards b m o passed.0, (g.met.S.Shelf.sound c.args.shelf.now).few) in
    record {
      read = ap (λ l. apart room (read_cards l)) rs ∙ apart_wider t.reads.width room (read_cards o.reads) modest neat.0;
      drafted = ap (λ l. apart room (draft_cards l)) ds ∙ apart_wider t.reads.width room (draft_cards o.drafts) modest neat.1;
      space =
          omega (arith, passed.2, ap length rs, ap length ds, length-map c.reads-reads.result.now reading, length-map c.drafts-drafts.result.now drafting);
    }

pub put_drafts-requires : goal.put_drafts-requires
put_drafts-requires g c =
    let t = c.args.self.now.table in
    let b = state_of c.args.self.now in
    let m = g.S.Shelf.meaning c.args.shelf.now in
    let p = c.args.place in
    let o = at b.places p in
    let passed = decide_passed b m o c.requires.granted in
    let neat = neat_at t p in
    let rs = c.reads-reads.ensures ∙ ap (λ l. l.reads) c.at-here.ensures in
    let ds = c.drafts-drafts.ensures ∙ ap (λ l. l.drafts) c.at-here.ensures in
    record {
      listed = ap (λ l. apart m.cards (draft_cards l)) (ap (map drafting) (grind (arith, common_steps)) ∙ ds) ∙ ap (λ n. apart n (draft_cards o.drafts)) (same_cards b m o passed.0) ∙ neat.1;
      spare = ap (crowded m) (ap (map drafting) (grind (arith, common_steps)) ∙ ds) ∙ passed.1;
    }

pub returns : goal.returns
returns g c =
    let t = c.args.self.now.table in
    let b = state_of c.args.self.now in
    let m = g.S.Shelf.meaning c.args.shelf.now in
    let p = c.args.place in
    let o = at b.places p in
    let passed = decide_passed b m o c.requires.granted in
    let neat = neat_at t p in
    let rs = c.reads-reads.ensures ∙ ap (λ l. l.reads) c.at-here.ensures in
    let ds = c.drafts-drafts.ensures ∙ ap (λ l. l.drafts) c.at-here.ensures in
    let is = opening_is o c.args.number.0 (map reading c.reads-reads.result.now) (map drafting c.drafts-drafts.result.now) c.requires.number rs ds in
    record {
      shelf =
          c.put_drafts.ensures
          ∙ ap (λ q. put_cards m q m.cards) (opening_is o _ _ _ c.requires.number rs (ap (map drafting) (grind (arith, common_steps)) ∙ ds))
          ∙ ap (put_cards m o) (same_cards b m o passed.0);
      books =
          ap (state_with (table_of t) c.args.self.now.width c.args.self.now.given)
          (c.log_block.ensures t.reads.width (ap (λ l. apart t.reads.width (read_cards l)) rs ∙ neat.0) (ap (λ l. apart t.reads.width (draft_cards l)) ds ∙ neat.1)
          ∙ ap (λ q. with_lines (log_of c.args.self.now.journal) (block m q t.reads.width)) is);
    }
