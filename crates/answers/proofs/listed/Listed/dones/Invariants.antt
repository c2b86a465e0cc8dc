use Rattle.std.proofs.Common.{◌≡◌, ℕ, ◌<◌, None, length, get_or}
use Rattle.answers.specs.Questions.{done_in}
use Rattle.answers.proofs.listed.Listed.dones.Given as goal

abbrev pub invariant-loop-place : goal.invariant-loop-place
invariant-loop-place g l = ((o : ℕ) → o < 2048 → get_or l.dones o None ≡ done_in l.self.entries.now o l.place) × (length l.dones ≡ 2048)
