use Rattle.std.proofs.Common.{◌≡◌, suc, ◌*◌, ◌≤◌, ◌&&◌, ltb, leb, [], ◌∷◌, ◌++◌, None, vec_len, sym, ap, ◌∙◌, mul-le-mul_right, arith}
use Rattle.std.proofs.lemmas.List.{replicate_more}
use Rattle.std.proofs.lemmas.Bool.{and_parts, leb-true}
use Rattle.transactions.specs.State.{most_drafts}
use Rattle.tables.specs.Tables.{table_of, with_list, used_of}
use Rattle.tables.proofs.table.OpenTable.lay_out.Goals as goal

pub add_place-requires : goal.add_place-requires
add_place-requires c =
    let t = c.args.self.now in
    let cards = c.args.cards in
    let inv = c.loop-place.invariant.0 in
    let u = c.loop-place.self.used in
    let all = and_parts (ltb 0 (table_of t).places_size) (leb (used_of (table_of t) * cards) (table_of t).reads_size && leb (used_of (table_of t) * most_drafts) (table_of t).drafts_size) (sym c.suffices.ensures ∙ c.if-not-suffices.false) in
    let both = and_parts (leb (used_of (table_of t) * cards) (table_of t).reads_size) (leb (used_of (table_of t) * most_drafts) (table_of t).drafts_size) all.1 in
    let reads = leb-true (used_of (table_of t) * cards) (table_of t).reads_size both.0 in
    let drafts = leb-true (used_of (table_of t) * most_drafts) (table_of t).drafts_size both.1 in
    let same_cards : c.loop-place.self.reads.width ≡ cards = ap (λ x. x.cards) inv in
    let low : suc u ≤ used_of (table_of t) = omega (arith, c.loop-place-test.true, c.min-place-end.ensures, c.len.ensures) in
    let m = mul-le-mul_right {m = suc u} {n = used_of (table_of t)} cards low in
    let m' : suc u * c.loop-place.self.reads.width ≡ suc u * cards = ap (λ x. suc u * x) same_cards in
    record {
      listed = omega (arith, low, ap (λ x. x.places_size) inv);
      read = omega (arith, m, m', reads, ap (λ x. x.reads_size) inv);
      drafted = omega (arith, low, drafts, ap (λ x. x.drafts_size) inv);
    }

pub loop-place-preserved : goal.loop-place-preserved
loop-place-preserved c =
    let t = c.args.self.now in
    let inv = c.loop-place.invariant.0 in
    let i = c.loop-place._place in (
      c.add_place.ensures.table ∙ ap (λ x. with_list x (x.list ++ (None ∷ []))) inv
          ∙ ap (λ l. record { places_size = vec_len t.places; reads_size = vec_len t.reads.items; drafts_size = vec_len t.drafts.items; cards = c.args.cards; list = l })
          (replicate_more i None),
      omega (arith, c.add_place.ensures.used, c.loop-place.invariant.1),
    )
