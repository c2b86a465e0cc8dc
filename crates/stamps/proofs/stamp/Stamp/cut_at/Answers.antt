use mathlib.Core.Path.{fun_ext}
use Rattle.std.proofs.Common.{◌≡◌, ℕ, replicate, ◌-◌, ap, ◌∙◌, length-take, length-drop, arith}
use Rattle.stamps.proofs.Zeros.{cut_behind}
use Rattle.stamps.proofs.stamp.Stamp.cut_at.Goals as goal

pub returns : goal.returns
returns c =
    let s = c.args.self.now in
    let blank : c.fill.new.self ≡ replicate {A = ℕ} (256 - c.min.result) 0 =
    c.fill.ensures.after (λ y same. same)
    ∙ ap (λ n. replicate {A = ℕ} n 0) (simp (length-take, length-drop) (omega (arith, s.full))) in
    fun_ext (λ i. cut_behind s.counts c.fill.new.self c.args.width c.min.result i s.full c.min.ensures blank)
