use Rattle.std.proofs.Common.{◌≡◌, suc, ◌+◌, ◌<◌, true, length, set, vec_items, sym, refl, ap, ◌∙◌, subst, arith}
use Rattle.pools.specs.declared.chain.Chain.{Chain}
use Rattle.pools.specs.declared.chain.Link.{Link}
use Rattle.pools.specs.Chains.{Leads, owner, tally, newest_known}
use Rattle.pools.specs.Links.{all_known, all_newest}
use Rattle.pools.specs.PoolFacts.{newest_there, number_small, link_read, pool_with}
use Rattle.pools.proofs.pool.PoolDrawer.append.Goals as goal

pub jump_after-jump-requires : goal.jump_after-jump-requires
jump_after-jump-requires c =
    let s = c.args.self.now in
    let d = c.args.card.0 in
    let is = link_read s d c.requires.listed c.index-older.result.now c.index-older.ensures in
    subst (Leads (vec_items s.chains) s.used d) (sym is) (newest_there s d c.requires.listed).led

pub next-requires : goal.next-requires
next-requires c =
    let s = c.args.self.now in
    let d = c.args.card.0 in
    let is = link_read s d c.requires.listed c.index-older.result.now c.index-older.ensures in
    omega (arith, ap (λ l. l.number) is, number_small s d c.requires.listed, c.requires.free, s.sized)

pub invariant_of-self : goal.invariant_of-self
invariant_of-self c =
    let s = c.args.self.now in
    let d = c.args.card.0 in
    let cs = vec_items s.chains in
    let ls = vec_items s.newest in
    let n = s.used in
    let l = c.index-older.result.now in
    let x : Chain = record { card = c.args.card; older = l; jump = c.jump_after-jump.result } in
    let listed = c.requires.listed in
    let is = link_read s d listed l c.index-older.ensures in
    let top = newest_there s d listed in
    let long : n < length cs = omega (arith, c.requires.free, s.chained, s.chains.ok.0) in
    let room : d < length ls = omega (arith, listed, s.listed, s.newest.ok.0) in
    let told : l.number ≡ tally (owner cs) d n = ap (λ y. y.number) is ∙ top.told in
    let led : Leads cs n d l = subst (Leads cs n d) (sym is) top.led in
    let jump = c.jump_after-jump.ensures in
    let all = all_known cs n x long told led jump.told jump.led s.linked in
    let newest = all_newest cs n x long told led jump.told jump.led ls s.size.cards room s.current in
    let more : suc n ≡ n + 1 = omega arith in
    let number : suc l.number ≡ l.number + 1 = omega arith in
    record {
      few = s.few;
      narrow = s.narrow;
      sized = s.sized;
      filled = omega (arith, c.requires.free);
      listed = s.listed;
      chained = s.chained;
      written = omega (arith, s.written, c.write.ensures.as_long);
      linked = λ q h. all q (omega arith);
      current =
          λ e h.
          subst (λ (y : Link). newest_known (set cs n x) (n + 1) (set ls d y) e ≡ true) (sym c.next.ensures)
          (subst (λ m. newest_known (set cs n x) m (set ls d (record { number = l.number + 1; place = n })) e ≡ true) more
          (subst (λ m. newest_known (set cs n x) (suc n) (set ls d (record { number = m; place = n })) e ≡ true) number (newest e h)));
    }

pub returns-clause-meant : goal.returns-clause-meant
returns-clause-meant c =
    let s = c.args.self.now in
    let x : Chain = record { card = c.args.card; older = c.index-older.result.now; jump = c.jump_after-jump.result } in
    pool_with s _ x c.args.written c.requires.listed c.requires.free refl (omega arith) refl c.write.ensures
