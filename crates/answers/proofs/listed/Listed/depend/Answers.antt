use Rattle.std.proofs.Common.{◌<◌, length, refl, sym, ap, ◌∙◌, arith}
use Rattle.reach.specs.Paths.{edges}
use Rattle.answers.specs.declared.dependences.Dependences.{Dependences}
use Rattle.digest.specs.Entries.{at}
use Rattle.answers.specs.Questions.{Towards, source}
use Rattle.answers.proofs.CommitLaws.{no_steps, steps_no, step_taken, source_low}
use Rattle.answers.proofs.listed.Listed.depend.Goals as goal
use Rattle.answers.proofs.listed.Listed.depend.Goals.{then-is_step, else-is_step}

pub loop-entry-init : goal.loop-entry-init
loop-entry-init g c = record {
  writers = c.requires.0 ∙ no_steps Towards.Writers c.args.self.now.entries.now;
  readers = c.requires.1 ∙ no_steps Towards.Readers c.args.self.now.entries.now;
}

pub loop-entry-preserved : goal.loop-entry-preserved
loop-entry-preserved g c =
    let es = c.args.self.now.entries.now in
    let n = c.loop-entry.entry-index in
    let inv = c.loop-entry.invariant in
    let lt : n < length es = c.loop-entry-test.true in
    let small : n < 2048 = omega (arith, c.args.self.now.few) in
    let owner = c.args.self.now.sound.owner n lt in
    elim c.if-is_step.branch [
      | then-is_step w ↦
          let step = sym c.is_step.ensures ∙ w.if-is_step.true in
          let low = source_low es c.args.self.now.sound n lt step in
          record {
            writers = ap (λ (d : Dependences). edges d.writers) w.dependences-is
                ∙ step_taken Towards.Writers es n (at es n).owner (source es (at es n)) c.loop-entry.dependences.writers w.add.new.self w.add.result inv.writers small
                (omega arith) (omega arith) step refl w.add.ensures.added w.add.ensures.taken;
            readers = ap (λ (d : Dependences). edges d.readers) w.dependences-is
                ∙ step_taken Towards.Readers es n (source es (at es n)) (at es n).owner c.loop-entry.dependences.readers w.add-then-is_step.new.self w.add-then-is_step.result inv.readers small
                (omega arith) (omega arith) step refl w.add-then-is_step.ensures.added w.add-then-is_step.ensures.taken;
          }
      | else-is_step w ↦
          let none = sym c.is_step.ensures ∙ w.if-is_step.false in
          record {
            writers = ap (λ (d : Dependences). edges d.writers) w.dependences-is ∙ inv.writers ∙ sym (steps_no Towards.Writers es n none);
            readers = ap (λ (d : Dependences). edges d.readers) w.dependences-is ∙ inv.readers ∙ sym (steps_no Towards.Readers es n none);
          }
    ]
