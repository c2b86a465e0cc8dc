use Rattle.std.proofs.Common.{◌≡◌, ℕ, suc, ◌≤◌, List, length, Ok, sym, ap, ◌∙◌, subst, arith}
use Rattle.std.proofs.lemmas.Bool.Decides.{nat_tests}
use Rattle.records.specs.declared.reader.RecordReader.{RecordReader}
use Rattle.records.specs.Parts.{records_in, part, Handed, Ended}
use Rattle.records.specs.Format.{decoded}
use Rattle.digest.specs.declared.entry.Entry.{Entry}
use Rattle.digest.specs.Entries.{entry_of}
use Rattle.digest.specs.Told.{Indexed}
use Rattle.digest.proofs.Snoc.{length_snoc}
use Rattle.digest.proofs.IndexedLaws.{indexed_none, indexed_more, indexed_cut}
use Rattle.digest.proofs.indexing.index.Goals as goal
use Rattle.digest.proofs.indexing.index.Goals.{in-None, in-Some+then-is_full, in-Some+else-is_full+in_default}

handed : (bs cs : List ℕ) (i n : ℕ) (p : List ℕ) (j : ℕ) → bs ≡ cs → i ≡ n → Handed bs i p j → Handed cs n p j
handed bs cs i n p j e f h = subst (λ (xs : List ℕ). Handed xs n p j) e (subst (λ k. Handed bs k p j) f h)

all_taken : (bs cs : List ℕ) (i n j : ℕ) → bs ≡ cs → i ≡ n → Ended bs i j → n ≤ records_in cs → records_in cs ≡ n
all_taken bs cs i n j e f h le = let past = subst (λ (xs : List ℕ). records_in xs ≤ i) e h.past in omega (arith, f, le, past)

pub loop-part-init : goal.loop-part-init
loop-part-init g c =
    let e = c.new-register.ensures in (
      tt,
      tt,
      ap (λ (r : RecordReader). r.bytes.now) c.into_iter-part-iterator.ensures.into_iter_gives ∙ c.new-part-items.ensures.bytes,
      ap (λ (r : RecordReader). r.place) c.into_iter-part-iterator.ensures.into_iter_gives ∙ c.new-part-items.ensures.place ∙ sym (ap length e),
      omega (arith, ap length e),
      omega (arith, ap length e),
      subst (λ (xs : List Entry). Indexed c.args.file.now (length xs) xs) (sym e) (indexed_none c.args.file.now),
    )

pub loop-part-preserved : goal.loop-part-preserved
loop-part-preserved g c =
    let inv = c.loop-part.invariant in
    let es = c.loop-part.register.entries.items in
    let h = handed _ _ _ _ _ _ inv.2 inv.3 c.in-Some.ensures.steps.cases in
    let reads : decoded (part c.args.file.now (length es)) ≡ Ok c.in-Ok.line = ap decoded (sym h.is) ∙ sym c.decode.ensures.value ∙ c.in-Ok.is in
    let e = c.push.ensures in
    let long : length c.push.new.self.entries.items ≡ suc (length es) = ap length e ∙ length_snoc es (entry_of es c.in-Ok.line) in (
      tt,
      tt,
      c.in-Some.ensures.steps.same ∙ inv.2,
      h.onward ∙ sym long,
      omega (arith, h.whole, long),
      omega (arith, long),
      rw (long, e) (indexed_more c.args.file.now (length es) es c.in-Ok.line reads inv.6),
    )

pub returns-clause-indexed : goal.returns-clause-indexed
returns-clause-indexed g c = λ few.
    let bs = c.args.file.now in
    let es = c.loop-part.register.entries.items in
    let inv = c.loop-part.invariant in
    let all : records_in bs ≡ length es → Indexed bs (records_in bs) es = λ e. subst (λ n. Indexed bs n es) (sym e) inv.6 in
    rw c.into_entries.ensures (elim c.match-next.branch [
      | in-None w ↦ all (all_taken _ _ _ _ _ inv.2 inv.3 w.in-None.ensures.steps.cases inv.4)
      | in-Some+then-is_full w ↦ all (grind (arith, nat_tests))
      | in-Some+else-is_full+in_default w ↦
          let h = handed _ _ _ _ _ _ inv.2 inv.3 w.in-Some.ensures.steps.cases in
          indexed_cut bs (length es) (records_in bs) _ h.whole
          (λ l e. w.in_default.not-Ok l (w.decode.ensures.value ∙ ap decoded h.is ∙ e)) inv.6
    ])
