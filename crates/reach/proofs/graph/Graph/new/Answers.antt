use Rattle.std.proofs.Common.{ℕ, None, Option, arith}
use Rattle.reach.specs.Links.{picks}
use Rattle.std.proofs.lemmas.List.{get_or-replicate}
use Rattle.reach.proofs.graph.Graph.new.Goals as goal

pub invariant_of-result : goal.invariant_of-result
unfolding picks
invariant_of-result c =
    rw c.new-edges.ensures (record {
      room = omega arith;
      within = λ k lt. absurd (omega arith);
      starts = λ n lt. get_or-replicate {A = Option ℕ} 2048 n None None lt;
      onward = λ k lt. absurd (omega arith);
    })
