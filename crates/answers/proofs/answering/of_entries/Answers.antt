use Rattle.std.proofs.Common.{Bool, Decides, refl, sym, ℕ, ◌<◌, List, length, subst, arith}
use Rattle.reach.specs.Paths.{edges}
use Rattle.answers.specs.Questions.{Towards, steps, Snapshots, Conflicts}
use Rattle.verdicts.specs.Verdicts.{CommittedReads}
use Rattle.digest.proofs.FactLaws.{told_facts, told_sound}
use Rattle.answers.proofs.AnswerLaws.{snapshots_decide}
use Rattle.answers.proofs.DirtyLaws.{reads_decide}
use Rattle.answers.proofs.ConflictLaws.{conflicts_decide}
use Rattle.answers.proofs.answering.of_entries.Goals as goal

pub returns : goal.returns
returns g c ls told =
    let es = c.args.entries.now in
    let ds = c.dones-dones.result in
    let f = told_facts told in
    let s = told_sound told in
    let dones = λ (o : ℕ) (lt : o < length es). c.dones-dones.ensures o (omega (arith, c.requires.1)) in
    let cons = c.verdict.result.cons in
    let wcf = c.verdict.result.wcf in
    let gs = steps Towards.Writers es (length es) in
    let hs = edges c.depend.new.dependences.readers in
    let depend = c.depend.ensures in
    let found = c.verdict.ensures in
    let snap = subst (λ (gs : List (ℕ × ℕ)). Snapshots es gs (length es) (length es) cons) depend.writers found.cons in
    let conf = subst (λ (hs : List (ℕ × ℕ)). Conflicts es ds gs hs (length es) (length es) wcf) depend.readers
    (subst (λ (gs : List (ℕ × ℕ)). Conflicts es ds gs hs (length es) (length es) wcf) depend.writers found.wcf) in
    record {
      aca = subst (λ (b : Bool). Decides b (CommittedReads ls)) (sym found.aca) (reads_decide ls es ds f s dones _ refl);
      cons = snapshots_decide ls es f s cons snap;
      wcf = conflicts_decide ls es ds f s dones wcf conf;
    }
