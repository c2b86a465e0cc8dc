use Rattle.std.proofs.Common.{ℕ, ◌+◌, ◌<◌, ◌≤◌, Bool, List, length, sym, refl, ap, ◌∙◌, subst, arith}
use Rattle.verdicts.specs.declared.verdict.Verdict.{Verdict}
use Rattle.reach.specs.Paths.{edges, Marked}
use Rattle.reach.specs.Searches.{waiting, Clear}
use Rattle.reach.proofs.SearchLaws.{none_marked}
use Rattle.answers.specs.Questions.{stale, Snapshot, Snapshots, Conflict, Conflicts}
use Rattle.answers.proofs.EachLaws.{each_more, each_told, each_skip}
use Rattle.answers.proofs.listed.Listed.verdict.Goals as goal
use Rattle.answers.proofs.listed.Listed.verdict.Goals.{then-entry-owner, else-entry-owner}

pub loop-owner-init : goal.loop-owner-init
loop-owner-init g c = record {
  aca = refl;
  cons = λ o lt is. absurd (omega arith);
  wcf = λ o lt is. absurd (omega arith);
  back = refl;
  marks = refl;
  clear = λ b m. none_marked (length c.args.marks.now) b (subst (λ (xs : List ℕ). Marked xs b) (c.fill.ensures.after (λ y e. e)) m);
  empty = c.new-queue.ensures;
}

pub search-requires : goal.search-requires
search-requires g c = record { clear = c.loop-owner.invariant.clear; empty = c.loop-owner.invariant.empty }

pub loop-owner-preserved : goal.loop-owner-preserved
loop-owner-preserved g c =
    let es = c.args.self.now.entries.now in
    let ds = c.args.dones.now in
    let gs = edges c.args.dependences.now.writers in
    let hs = edges c.args.dependences.now.readers in
    let m = length es in
    let n = c.loop-owner.owner in
    let inv = c.loop-owner.invariant in
    let lt : n < m = c.loop-owner-test.true in
    elim c.if-entry-owner.branch [
      | then-entry-owner w ↦
          let ms = w.search.new.marks in
          let long : m ≤ length ms = omega (arith, w.search.auto.marks, inv.marks, c.fill.ensures.len, c.requires) in
          let snap : Snapshot es gs m n (stale es ms n) = record { marks = ms; reached = w.search.ensures.reached; long = long; tells = refl } in
          record {
            aca = ap (λ (v : Verdict). v.aca) w.verdict-is ∙ inv.aca;
            cons = subst (λ (b : Bool). Snapshots es gs m (n + 1) b) (sym (ap (λ (v : Verdict). v.cons) w.verdict-is ∙ w.stays_consistent.ensures)) (each_more es (Snapshot es gs m) n _ _ lt w.if-entry-owner.true snap inv.cons);
            wcf = subst (λ (b : Bool). Conflicts es ds gs hs m (n + 1) b) (sym (ap (λ (v : Verdict). v.wcf) w.verdict-is))
                (each_told es (Conflict es ds gs hs m) n _ w.stays_free.result lt w.if-entry-owner.true
                (λ e. record { forward = ms; reached = w.search.ensures.reached; long = long; asked = w.stays_free.ensures.asked e }) w.stays_free.ensures.kept inv.wcf);
            back = ap length w.back-is ∙ w.stays_free.auto.backward ∙ inv.back;
            marks = c.if-entry-owner.auto.marks ∙ inv.marks;
            clear = subst (λ (xs : List ℕ). Clear xs) (sym w.marks-is) w.clear.ensures.clear;
            empty = ap waiting w.queue-is ∙ w.clear.ensures.empty;
          }
      | else-entry-owner w ↦ record {
        aca = ap (λ (v : Verdict). v.aca) w.verdict-is ∙ inv.aca;
        cons = subst (λ (b : Bool). Snapshots es gs m (n + 1) b) (sym (ap (λ (v : Verdict). v.cons) w.verdict-is)) (each_skip es (Snapshot es gs m) n _ w.if-entry-owner.false inv.cons);
        wcf = subst (λ (b : Bool). Conflicts es ds gs hs m (n + 1) b) (sym (ap (λ (v : Verdict). v.wcf) w.verdict-is)) (each_skip es (Conflict es ds gs hs m) n _ w.if-entry-owner.false inv.wcf);
        back = ap length w.back-is ∙ inv.back;
        marks = c.if-entry-owner.auto.marks ∙ inv.marks;
        clear = subst (λ (xs : List ℕ). Clear xs) (sym w.marks-is) inv.clear;
        empty = ap waiting w.queue-is ∙ inv.empty;
      }
    ]
