use Rattle.std.proofs.Common.{refl, arith}
use mathlib.Core.Path.{fun_ext}
use Rattle.stamps.proofs.Zeros.{zeros}
use Rattle.stamps.proofs.stamp.Stamp.zero.Goals as goal

pub invariant_of-result : goal.invariant_of-result
invariant_of-result c = record { full = refl; small = λ i. omega (arith, zeros 256 i) }

pub returns : goal.returns
returns c = fun_ext (zeros 256)
