use Rattle.std.proofs.Common.{◌++◌, ◌∷◌, [], ap, ◌∙◌, refl, sym, subst, decimal, rules}
use Rattle.std.specs.Fmt.{HasWritten}
use Rattle.std.proofs.lemmas.Grind.{put_two}
use Rattle.scripts.specs.Text.{first_counts}
use Rattle.scripts.proofs.Spaces.{one_more}
use Rattle.scripts.proofs.counts.CountsDisplay.fmt.Goals as goal

pub returns-then-self-eq0-clause-writes : goal.returns-then-self-eq0-clause-writes
returns-then-self-eq0-clause-writes g c = λ plain _.
    subst (λ n. HasWritten g.W.Write.write_str_gives c.args.f.now (first_counts c.args.self.now.stamp n) c.args.f.now) (sym c.if-self-eq0.true)
    (record { wrote = record { parts = []; calls = refl; whole = refl }; plain = plain })

pub loop-card-init : goal.loop-card-init
loop-card-init g c = (
  search rules,
  search rules,
  λ plain.
      subst (λ n. HasWritten g.W.Write.write_str_gives c.args.f.now (decimal n) c.write.new.self) c.entry.ensures (c.in_ok-write.ensures.writes plain refl),
)

pub loop-card-preserved : goal.loop-card-preserved
loop-card-preserved g c = (
  search rules,
  search rules,
  λ plain.
      let written = c.loop-card.invariant.2 plain in
      put_two _ _ _ _ _ _ _ written (c.in_ok-write-2.ensures.writes written.plain refl)
      (ap (λ n. first_counts c.args.self.now.stamp c.loop-card.card ++ (32 ∷ decimal n)) c.entry-in-loop-card.ensures ∙ one_more c.args.self.now.stamp _ c.loop-card.invariant.0),
)

pub returns-clause-writes : goal.returns-clause-writes
returns-clause-writes g c = λ plain _.
    subst (λ n. HasWritten g.W.Write.write_str_gives c.args.f.now (first_counts c.args.self.now.stamp n) c.loop-card.f) {x = c.loop-card.card} {y = c.args.self.now.cards} (search rules) (c.loop-card.invariant.2 plain)
