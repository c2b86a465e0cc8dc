-- The tests of lines, against what they ask. Assumes nothing.
use Rattle.std.proofs.Common.{◌≡◌, ℕ, zero, suc, Bool, true, ◌&&◌, eqb, ◌⊎◌, List, [], ◌∷◌, refl, ap, ◌∙◌, inl, inr, arith}
use Rattle.std.specs.Prelude.{Decides}
use Rattle.std.proofs.lemmas.Bool.{or_cases, or_left, or_right}
use Rattle.std.proofs.lemmas.Bool.Decides.{Decides-eqb, Decides-and}
use Rattle.std.proofs.lemmas.Option.{same_Some}
use Rattle.records.specs.declared.kind.Kind.{Kind}
use Rattle.records.specs.declared.kind.Kind.TheVariants.{Read, Writ, Done, Gone}
use Rattle.records.specs.declared.line.Line.{Line}
use Rattle.rules.specs.Rules.{some, told, is_read, is_writ, is_end, ends}
use Rattle.rules.specs.Lines.{At, EndAt}

-- some line passes a test exactly where a line at some place does
pub some_finds : (p : Line → Bool) (ls : List Line) → some p ls ≡ true → (j : ℕ) × (m : Line) × At ls j m × (p m ≡ true)
some_finds p [] h = let z : ◌≡◌ {A = ℕ} 0 1 = cc in absurd (omega arith)
some_finds p (l ∷ ls) h = elim (or_cases (p l) (some p ls) h) [
  | inl here ↦ (0, l, refl, here)
  | inr there ↦ let (j, m, at, e) = some_finds p ls there in (suc j, m, at, e)
]

pub some_holds : (p : Line → Bool) (ls : List Line) (j : ℕ) (m : Line) → At ls j m → p m ≡ true → some p ls ≡ true
some_holds p [] j m at e = let z : ◌≡◌ {A = ℕ} 0 1 = cc in absurd (omega arith)
some_holds p (l ∷ ls) zero m at e = or_left (p l) (some p ls) (ap p (same_Some l m at) ∙ e)
some_holds p (l ∷ ls) (suc j) m at e = or_right (p l) (some p ls) (some_holds p ls j m at e)

-- what the tests of a line ask
pub kind_read : (k : Kind) → Decides (is_read k) (k ≡ Read)
kind_read Read = (λ e. refl, λ e. refl)
kind_read Writ = (λ e. cc, λ e. cc)
kind_read Done = (λ e. cc, λ e. cc)
kind_read Gone = (λ e. cc, λ e. cc)

pub kind_writ : (k : Kind) → Decides (is_writ k) (k ≡ Writ)
kind_writ Read = (λ e. cc, λ e. cc)
kind_writ Writ = (λ e. refl, λ e. refl)
kind_writ Done = (λ e. cc, λ e. cc)
kind_writ Gone = (λ e. cc, λ e. cc)

kind_end : (k : Kind) → Decides (is_end k) ((k ≡ Done) ⊎ (k ≡ Gone))
kind_end Read = (λ e. inl (cc), λ s. elim s [ inl e ↦ cc | inr e ↦ cc ])
kind_end Writ = (λ e. inl (cc), λ s. elim s [ inl e ↦ cc | inr e ↦ cc ])
kind_end Done = (λ e. inl refl, λ s. refl)
kind_end Gone = (λ e. inr refl, λ s. refl)

pub told_decides : (test : Kind → Bool) (K : Kind → Type 0) → ((k : Kind) → Decides (test k) (K k)) → (t x : ℕ) (l : Line)
    → Decides (told test t x l) ((K l.kind × (l.transaction.0 ≡ t)) × (l.card.0 ≡ x))
told_decides test K d t x l =
    Decides-and (test l.kind && eqb l.transaction.0 t) (eqb l.card.0 x)
    (Decides-and (test l.kind) (eqb l.transaction.0 t) (d l.kind) (Decides-eqb l.transaction.0 t)) (Decides-eqb l.card.0 x)

ends_decides : (t : ℕ) (l : Line) → Decides (ends t l) (((l.kind ≡ Done) ⊎ (l.kind ≡ Gone)) × (l.transaction.0 ≡ t))
ends_decides t l = Decides-and (is_end l.kind) (eqb l.transaction.0 t) (kind_end l.kind) (Decides-eqb l.transaction.0 t)

-- the end of a transaction, among all lines
end_at : (ls : List Line) (j t : ℕ) (m : Line) → At ls j m → ((m.kind ≡ Done) ⊎ (m.kind ≡ Gone)) × (m.transaction.0 ≡ t) → EndAt ls j t
end_at ls j t m at (inl k, by) = inl (record { line = m; at = at; kind = k; by = by })
end_at ls j t m at (inr k, by) = inr (record { line = m; at = at; kind = k; by = by })

pub end_told : (ls : List Line) (j t : ℕ) → EndAt ls j t → (m : Line) × At ls j m × (ends t m ≡ true)
end_told ls j t (inl s) = (s.line, s.at, (ends_decides t s.line).1 (inl s.kind, s.by))
end_told ls j t (inr s) = (s.line, s.at, (ends_decides t s.line).1 (inr s.kind, s.by))

pub some_ends : (ls : List Line) (t : ℕ) → Decides (some (ends t) ls) ((j : ℕ) × EndAt ls j t)
some_ends ls t = (
  λ h. let (j, m, at, e) = some_finds (ends t) ls h in (j, end_at ls j t m at ((ends_decides t m).0 e)),
  λ h. let (m, at, e) = end_told ls h.0 t h.1 in some_holds (ends t) ls h.0 m at e,
)
