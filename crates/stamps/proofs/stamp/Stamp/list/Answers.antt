use Rattle.std.proofs.Common.{◌≡◌, ℕ, ◌<◌, length, get_or, refl, ◌∙◌, arith}
use mathlib.Core.Path.{fun_ext}
use Rattle.stamps.proofs.Zeros.{copied_none, copied_all, small_from}
use Rattle.stamps.proofs.stamp.Stamp.list.Goals as goal

pub loop-i-init : goal.loop-i-init
loop-i-init c = (refl, copied_none c.args.self.now.counts)

pub returns : goal.returns
returns c =
    let s = c.args.self.now in
    let same : (k : ℕ) → get_or c.loop-i.list k 0 ≡ get_or s.counts k 0 =
    λ k. c.loop-i.invariant.1 k ∙ copied_all s.counts c.loop-i.i k (omega (arith, s.full)) in
    record {
      full = c.loop-i.invariant.0;
      same = fun_ext same;
      small = small_from c.loop-i.list (λ i (h : i < length c.loop-i.list). omega (arith, same i, s.small i));
    }
