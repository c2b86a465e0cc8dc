use Rattle.std.proofs.Common.{◌-◌, eqb, vec_items, sym, ap, ◌∙◌, arith}
use Rattle.std.proofs.lemmas.Bool.{cond-true, eq-eqb}
use Rattle.pools.specs.Chains.{jump_from, longer}
use Rattle.pools.proofs.pool.PoolDrawer.jump_after.Goals as goal

pub returns-then-older-far : goal.returns-then-older-far
returns-then-older-far c =
    let l = c.args.older in
    let far = c.jump_from-far.result in
    let farther = c.jump_from-farther.result in
    let one = c.jump_from-far.ensures in
    let two = c.jump_from-farther.ensures in
    let both = two.chosen ∙ ap (jump_from (vec_items c.args.self.now.chains)) one.chosen in
    record {
      led = two.led;
      told = omega (arith, one.told, two.told);
      chosen =
          sym (cond-true (eqb (l.number - far.number) (far.number - farther.number)) farther l (eq-eqb (l.number - far.number) (far.number - farther.number) c.if-older-far.true))
          ∙ (λ z. longer l (one.chosen z) (both z));
    }
