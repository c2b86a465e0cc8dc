use Rattle.std.proofs.Common.{eqb, sym, ap, ◌∙◌, arith}
use Rattle.std.proofs.lemmas.Bool.{cond-false, ne_eqb}
use Rattle.pools.specs.PoolFacts.{back, chain_read}
use Rattle.pools.proofs.pool.PoolDrawer.jump_from.Goals as goal

pub returns-else-link-eq0 : goal.returns-else-link-eq0
returns-else-link-eq0 c =
    let s = c.args.self.now in
    let l = c.args.link in
    let led = c.requires (omega (arith, c.if-link-eq0.false)) in
    let b = back s c.args.card.0 l c.index.result.now led c.index.ensures in
    let is = chain_read s l.place c.index.result.now led.below c.index.ensures in
    record {
      led = b.jump;
      told = omega (arith, b.jump_told);
      chosen = ap (λ x. x.jump) is ∙ sym (cond-false (eqb l.number 0) _ _ (ne_eqb l.number 0 c.if-link-eq0.false));
    }
