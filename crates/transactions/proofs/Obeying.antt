-- Lines that pass the judge's tests one by one, against the rules of a file.
use Rattle.std.proofs.Common.{◌≡◌, true, List, [], ◌∷◌, ◌++◌, None, sym, subst, inl, inr, append_assoc, append-nil, arith}
use Rattle.records.specs.declared.line.Line.{Line}
use Rattle.records.specs.Format.{fault_of}
use Rattle.rules.specs.Fields.{GoodFields}
use Rattle.rules.specs.Rules.{in_place}
use Rattle.rules.specs.Lines.{LineRules}
use Rattle.rules.proofs.Snoc.{nth_snoc}
use Rattle.rules.proofs.FieldLaws.{good_from_none}
use Rattle.rules.proofs.PlaceLaws.{in_place_decides, in_place_past, all_more}
use Rattle.transactions.proofs.Places.{none_some}

-- each of the lines ls passes its tests behind those before it, which begin with `earlier`
abbrev pub Obeys : (earlier ls : List Line) → Type 0
Obeys earlier [] = Unit {0}
Obeys earlier (l ∷ ls) = (fault_of l ≡ None) × (in_place earlier l ≡ true) × Obeys (earlier ++ (l ∷ [])) ls

pub no_lines : LineRules []
no_lines = record { good = λ i l e. absurd (none_some e); in_place = λ i. in_place_past [] i (omega arith) }

one_more : (ls : List Line) (l : Line) → LineRules ls → fault_of l ≡ None → in_place ls l ≡ true → LineRules (ls ++ (l ∷ []))
one_more ls l r none fits = record {
  good = λ i m e. elim (nth_snoc ls l m i e) [
    | inl (lt, old) ↦ r.good i m old
    | inr (k, same) ↦ subst GoodFields same (good_from_none l none)
  ];
  in_place = all_more ls l r.in_place ((in_place_decides ls l).0 fits);
}

-- behind lines that obey the rules, lines that pass their tests obey them too
pub rules_more : (before ls : List Line) → LineRules before → Obeys before ls → LineRules (before ++ ls)
rules_more before [] r o = subst LineRules (sym (append-nil before)) r
rules_more before (l ∷ ls) r (f, p, o) =
    subst LineRules (append_assoc before (l ∷ []) ls) (rules_more (before ++ (l ∷ [])) ls (one_more before l r f p) o)
