-- One record more of the text. Assumes nothing.
use Rattle.std.proofs.Common.{◌≡◌, ℕ, suc, ◌+◌, ◌-◌, ◌<◌, List, ◌++◌, Ok, Err, Result, sym, ap, ◌∙◌, append_assoc, arith}
use Rattle.records.specs.declared.kind.Kind.{Kind}
use Rattle.records.specs.declared.kind.Kind.TheVariants.{Read, Writ, Done, Gone}
use Rattle.records.specs.declared.line.Line.{Line}
use Rattle.records.specs.declared.fault.PlacedFault.{PlacedFault}
use Rattle.records.specs.Format.{decoded, placed_at}
use Rattle.records.specs.Parts.{part}
use Rattle.records.specs.Words.{line_text}
use Rattle.rules.specs.declared.judge_fault.JudgeFault.{JudgeFault}
use Rattle.dump.specs.declared.counts.Counts.{Counts}
use Rattle.dump.specs.Dump.{total, counted_in, text_by, text_from}
use Rattle.rules.specs.Rules.{judged}
use Rattle.history.specs.Texts.{with_newline, refused_line}
use Rattle.dump.specs.Ends.{judged_at}

pub total_more : (cs : Counts) (k : Kind) → total (counted_in cs k) ≡ total cs + 1
total_more cs Read = omega arith
total_more cs Writ = omega arith
total_more cs Done = omega arith
total_more cs Gone = omega arith

by_line : (r : Result Line PlacedFault) (l : Line) (cs : Counts) (more : Counts → List ℕ) → judged_at r ≡ Ok l → text_by r cs more ≡ with_newline (line_text l) ++ more (counted_in cs l.kind)
by_line (Ok m) l cs more e = let same : m ≡ l = cc in ap (λ (x : Line). with_newline (line_text x) ++ more (counted_in cs x.kind)) same
by_line (Err p) l cs more e = let z : ◌≡◌ {A = ℕ} 0 1 = cc in absurd (omega arith)

by_fault : (r : Result Line PlacedFault) (f : JudgeFault) (cs : Counts) (more : Counts → List ℕ) → judged_at r ≡ Err f → text_by r cs more ≡ refused_line f
by_fault (Ok m) f cs more e = let z : ◌≡◌ {A = ℕ} 0 1 = cc in absurd (omega arith)
by_fault (Err p) f cs more e = let same : judged p ≡ f = cc in ap refused_line same

module _ (bs : List ℕ) (i n : ℕ) (cs : Counts) (lt : i < n) where
  one_more : text_from bs i (n - i) cs ≡ text_by (placed_at i (decoded (part bs i))) cs (text_from bs (suc i) (n - suc i))
  one_more = let e : n - i ≡ suc (n - suc i) = omega arith in ap (λ (m : ℕ). text_from bs i m cs) e

  pub onward : (l : Line) (ds : Counts) (old new all : List ℕ) → judged_at (placed_at i (decoded (part bs i))) ≡ Ok l → ds ≡ counted_in cs l.kind
      → new ≡ old ++ with_newline (line_text l) → old ++ text_from bs i (n - i) cs ≡ all → new ++ text_from bs (i + 1) (n - (i + 1)) ds ≡ all
  onward l ds old new all e d w h =
      let rest = text_from bs (suc i) (n - suc i) (counted_in cs l.kind) in
      let s : i + 1 ≡ suc i = omega arith in
      (λ z. new ++ text_from bs (s z) (n - s z) (d z))
      ∙ ap (λ (x : List ℕ). x ++ rest) w
      ∙ append_assoc old (with_newline (line_text l)) rest
      ∙ ap (λ (x : List ℕ). old ++ x) (sym (by_line _ l cs (text_from bs (suc i) (n - suc i)) e))
      ∙ ap (λ (x : List ℕ). old ++ x) (sym one_more)
      ∙ h

  pub stops : (f : JudgeFault) (old all : List ℕ) → judged_at (placed_at i (decoded (part bs i))) ≡ Err f → old ++ text_from bs i (n - i) cs ≡ all → old ++ refused_line f ≡ all
  stops f old all e h = ap (λ (x : List ℕ). old ++ x) (sym (by_fault _ f cs (text_from bs (suc i) (n - suc i)) e)) ∙ ap (λ (x : List ℕ). old ++ x) (sym one_more) ∙ h

-- what was read is record i of the file
pub read_there : (bs : List ℕ) (i place : ℕ) (p : List ℕ) (r s : Result Line JudgeFault) → place ≡ i → p ≡ part bs i
    → r ≡ judged_at (placed_at place (decoded p)) → r ≡ s → judged_at (placed_at i (decoded (part bs i))) ≡ s
read_there bs i place p r s ei ep er es = (λ z. judged_at (placed_at (sym ei z) (decoded (sym ep z)))) ∙ sym er ∙ es
