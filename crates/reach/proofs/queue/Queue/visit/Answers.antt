use Rattle.std.proofs.Common.{◌≡◌, ℕ, ◌+◌, ◌<◌, eqb, take, get_or, set, sym, ap, ◌∙◌, subst, inl, inr, arith}
use Rattle.std.proofs.lemmas.Bool.{cases_Bool, cases_lt}
use Rattle.std.proofs.lemmas.Bool.Decides.{nat_tests}
use Rattle.std.proofs.lemmas.List.{take-set-le, take_more_set}
use Rattle.reach.proofs.SearchLaws.{waiting_long, unmarked_less, visited, revisited}
use Rattle.reach.specs.Links.{places}
use Rattle.reach.specs.Searches.{Found, Is, waiting}
use Rattle.reach.proofs.queue.Queue.visit.Goals as goal

pub returns-then-self-lt-PLACES-clause-found : goal.returns-then-self-lt-PLACES-clause-found
returns-then-self-lt-PLACES-clause-found c =
    let ms = c.args.marks.now in
    let xs = c.args.self.now.nodes in
    let n = c.args.node in
    let k = c.args.self.now.count in
    let grown : (m : ℕ) → c.from.result ≡ m → Found (Is n) ms (set ms n 1) (take k xs) (take (k + m) (set xs k n)) → Found (Is n) ms (set ms n 1) (take k xs) (take (k + c.from.result) (set xs k n)) =
    λ m e f. subst (λ j. Found (Is n) ms (set ms n 1) (take k xs) (take (k + j) (set xs k n))) (sym e) f in
    elim (cases_Bool (eqb (get_or ms n 0) 0)) [
      | inl e ↦
          let clear : get_or ms n 0 ≡ 0 = grind (arith, nat_tests) in
          grown 1 (rw e at c.from.ensures)
          (subst (Found (Is n) ms (set ms n 1) (take k xs)) (sym (take_more_set xs k n (omega (arith, c.args.self.now.long))))
          (visited ms (take k xs) n c.requires.1 c.requires.0 c.if-node-marks.false clear))
      | inr e ↦
          let was : 0 < get_or ms n 0 = grind (arith, nat_tests) in
          grown 0 (rw e at c.from.ensures)
          (subst (Found (Is n) ms (set ms n 1) (take k xs)) (sym (take-set-le (k + 0) xs k n (omega arith) ∙ ap (λ j. take j xs) (omega arith)))
          (revisited ms (take k xs) n c.requires.1 was))
    ]

-- a full queue holds all nodes, so each is marked
pub returns-else-self-lt-PLACES-clause-found : goal.returns-else-self-lt-PLACES-clause-found
returns-else-self-lt-PLACES-clause-found c =
    let ms = c.args.marks.now in
    let q = c.args.self.now in
    let n = c.args.node in
    elim (cases_lt 0 (get_or ms n 0)) [
      | inl was ↦ revisited ms (waiting q) n c.requires.1 was
      | inr none ↦
          let clear : get_or ms n 0 ≡ 0 = omega arith in
          absurd (omega (arith, waiting_long q, c.requires.1, unmarked_less ms n places c.requires.0 c.if-node-marks.false clear))
    ]
