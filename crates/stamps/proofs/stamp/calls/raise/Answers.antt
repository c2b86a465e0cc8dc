use Rattle.std.proofs.Common.{◌≡◌, ℕ, ◌<◌, ◌≤◌, get_or, ◌∙◌, ⊎_elim, arith}
use Rattle.std.proofs.lemmas.List.{get_or_past}
use Rattle.std.proofs.lemmas.Bool.{cases_lt}
use Rattle.std.proofs.lemmas.Bool.Decides.{nat_tests}
use Rattle.stamps.specs.Counts.{joined, counts_at}
use Rattle.stamps.proofs.stamp.calls.raise.Goals as goal

pub returns : goal.returns
returns c = record { full = c.loop-i.invariant.0; raised = raised }
  where
    raised : (k : ℕ) → get_or c.loop-i.mine k 0 ≡ joined (counts_at c.args.mine.now) (counts_at c.args.other.now) k
    raised k =
        ⊎_elim
        (λ (low : k < 256). c.loop-i.invariant.1 k ∙ grind (arith, nat_tests))
        (λ (high : 256 ≤ k).
        let mine = get_or_past c.args.mine.now k 0 (omega arith) in
        let other = get_or_past c.args.other.now k 0 (omega arith) in
        c.loop-i.invariant.1 k ∙ grind (arith, nat_tests, mine, other))
        (cases_lt k 256)
