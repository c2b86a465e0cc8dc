-- The places of the DONEs, step by step, and the steps of a graph.
use Rattle.std.proofs.Common.{◌≡◌, ℕ, zero, suc, ◌+◌, ◌-◌, ◌<◌, ◌≤◌, Bool, true, false, cond, not, ◌&&◌, Option, Some, None, is_some, List, [], ◌∷◌, ◌++◌, length, get_or, set, replicate, sym, refl, ap, ◌∙◌, inl, inr, add-one, arith, get_or-set_other, get_or-set_same}
use Rattle.std.proofs.lemmas.List.{get_or-replicate, length-append}
use Rattle.std.proofs.lemmas.Bool.Decides.{nat_tests}
use Rattle.std.proofs.lemmas.Bool.{cases_eq}
use Rattle.reach.specs.declared.graph.Graph.{Graph}
use Rattle.reach.specs.Paths.{edges, taken}
use Rattle.digest.specs.declared.entry.Entry.{Entry}
use Rattle.answers.specs.Questions.{Towards}
use Rattle.rules.specs.Rules.{is_read}
use Rattle.digest.specs.Entries.{at, is_done, is_step, Sound}
use Rattle.answers.specs.Questions.{done_in, source, step_of, steps}

pub none_done : (es : List Entry) (o : ℕ) → o < 2048 → get_or (replicate 2048 None) o None ≡ done_in es o 0
unfolding done_in
none_done es o lt = get_or-replicate {A = Option ℕ} 2048 o None None lt

-- entry n is a DONE, and its transaction has none before
pub done_noted : (es : List Entry) (ds : List (Option ℕ)) (n o : ℕ) → (at es n).owner < length ds → get_or ds o None ≡ done_in es o n
    → is_done (at es n).kind ≡ true → is_some (get_or ds (at es n).owner None) ≡ false → get_or (set ds (at es n).owner (Some n)) o None ≡ done_in es o (n + 1)
unfolding done_in
done_noted es ds n o lt same done fresh = rw add-one (elim (cases_eq o (at es n).owner) [
  | inl e ↦ let new = get_or-set_same ds (at es n).owner (Some n) None lt in let here = ap (λ k. get_or ds k None) e in let there = ap (λ k. get_or (set ds (at es n).owner (Some n)) k None) e in grind (arith, nat_tests)
  | inr ne ↦ let old = get_or-set_other ds (at es n).owner o (Some n) None ne in grind (arith, nat_tests)
])

-- entry n is no DONE, or its transaction has one before
pub done_kept : (es : List Entry) (ds : List (Option ℕ)) (n o : ℕ) → get_or ds o None ≡ done_in es o n
    → (is_done (at es n).kind && not (is_some (get_or ds (at es n).owner None))) ≡ false → get_or ds o None ≡ done_in es o (n + 1)
unfolding done_in
done_kept es ds n o same h = rw add-one (elim (cases_eq o (at es n).owner) [
  | inl e ↦ let here = ap (λ k. get_or ds k None) e in grind (arith, nat_tests)
  | inr ne ↦ grind (arith, nat_tests)
])

pub no_steps : (d : Towards) (es : List Entry) → [] ≡ steps d es 0
unfolding steps
no_steps d es = refl

pub steps_yes : (d : Towards) (es : List Entry) (n : ℕ) → is_step (at es n) ≡ true → steps d es (n + 1) ≡ steps d es n ++ step_of d es (at es n) ∷ []
unfolding steps
steps_yes d es n e = rw add-one (rw e)

pub steps_no : (d : Towards) (es : List Entry) (n : ℕ) → is_step (at es n) ≡ false → steps d es (n + 1) ≡ steps d es n
unfolding steps
steps_no d es n e = rw add-one (rw e)

pub steps_few : (d : Towards) (es : List Entry) (n : ℕ) → length (steps d es n) ≤ n
unfolding steps
steps_few d es zero = omega arith
steps_few d es (suc n) = few (is_step (at es n)) (steps_few d es n)
  where
    few : (b : Bool) → length (steps d es n) ≤ n → length (cond b (steps d es n ++ step_of d es (at es n) ∷ []) (steps d es n)) ≤ suc n
    few true le = omega (arith, length-append (steps d es n) (step_of d es (at es n) ∷ []))
    few false le = omega arith

-- a graph that took the step of entry n
pub step_taken : (d : Towards) (es : List Entry) (n a b : ℕ) (g h : Graph) (r : Bool) → edges g ≡ steps d es n → n < 2048 → a < 2048 → b < 2048
    → is_step (at es n) ≡ true → step_of d es (at es n) ≡ (a, b)
    → edges h ≡ cond r (edges g ++ (a, b) ∷ []) (edges g) → r ≡ taken g a b → edges h ≡ steps d es (n + 1)
step_taken d es n a b g h r so_far room la lb yes-step is added took =
    let few : length (edges g) ≤ n = omega (arith, steps_few d es n, ap length so_far) in
    let t : r ≡ true = grind (arith, nat_tests) in
    let more = steps_yes d es n yes-step in
    let grown : edges h ≡ edges g ++ (a, b) ∷ [] = rw t at added in
    grown ∙ ap (λ (xs : List (ℕ × ℕ)). xs ++ (a, b) ∷ []) so_far ∙ ap (λ (p : ℕ × ℕ). steps d es n ++ p ∷ []) (sym is) ∙ sym more

pub step_reads : (e : Entry) → is_step e ≡ true → (is_read e.kind ≡ true) × (0 < e.version)
step_reads e h = (grind (arith, nat_tests), grind (arith, nat_tests))

pub source_low : (es : List Entry) → Sound es → (i : ℕ) → i < length es → is_step (at es i) ≡ true → source es (at es i) < i
source_low es s i lt h =
    let (reads, some) = step_reads (at es i) h in
    let v = s.version i lt reads in
    omega (arith, s.owner ((at es i).version - 1) (omega arith))
