-- The verdict on a file's lines, by computation.
--     clean?                      settles whether each READ names 0 or one whose DONE stands earlier
--     found ls                    the verdict, where as many steps as there are lines find every dependence
--     judged                      a verdict so found is right
use Rattle.std.proofs.Common.{◌≡◌, ℕ, ◌<◌, Bool, true, false, ◌⊎◌, List, length, Some, None, Decides, Option, sym, refl, ◌∙◌, subst, inl, inr, arith}
use Rattle.std.proofs.lemmas.Bool.{false≢true}
use Rattle.records.specs.declared.kind.Kind.TheVariants.{Read, Done}
use Rattle.records.specs.declared.line.Line.{Line}
use Rattle.verdicts.specs.declared.verdict.Verdict.{Verdict}
use Rattle.verdicts.specs.Verdicts.{Stands, history_of, CommittedReads, Judged}
use Rattle.isolation.specs.History.{ConsistentSnapshots, WriteConflictFree}
use Rattle.examples.proofs.Finite.{In, eq?, lt?, like?, both?, either?, if?, all?, any?, SomeIn}
use Rattle.examples.proofs.Dependence.{Edge, steps, chains, Closed, closed?, consistent?, conflict_free?}
use Rattle.examples.proofs.Files.{Row, row, rows, by, named, on, KindIs, kind_is?, written, read_of, ended, standing, stood, read_at, told}

module _ (ls : List Line) where
  -- d is an earlier DONE of the writer that r names
  abbrev pub DoneBefore : Row → Row → Type 0
  DoneBefore r d = KindIs Done d × ((by d ≡ named r) × (d.place < r.place))

  abbrev pub Clean : Row → Type 0
  Clean r = KindIs Read r → (named r ≡ 0) ⊎ SomeIn (DoneBefore r) (rows ls)

  abbrev pub CleanRows : Type 0
  CleanRows = (r : Row) → In r (rows ls) → Clean r

  pub clean : CleanRows → CommittedReads ls
  clean g i t x w a = go (row i a.stands.line) refl a.writer (g (row i a.stands.line) (stood ls a.stands) a.stands.kind)
    where
      go : (r : Row) → r.place ≡ i → named r ≡ w → (named r ≡ 0) ⊎ SomeIn (DoneBefore r) (rows ls)
          → (w ≡ 0) ⊎ ((j : ℕ) × (j < i) × Stands ls j Done w)
      go r p v (inl z) = inl (sym v ∙ z)
      go r p v (inr (d, j, (k, (e, l)))) =
          inr (d.place, subst (λ i. d.place < i) p l, subst (λ w. Stands ls d.place Done w) (e ∙ v) (standing ls Done d j k))

  pub cleaned : CommittedReads ls → CleanRows
  cleaned g r i k = go (g r.place (by r) (on r) (named r) (read_at ls r i k))
    where
      go : (named r ≡ 0) ⊎ ((j : ℕ) × (j < r.place) × Stands ls j Done (named r)) → (named r ≡ 0) ⊎ SomeIn (DoneBefore r) (rows ls)
      go (inl z) = inl z
      go (inr (j, l, s)) = inr (row j s.line, stood ls s, (s.kind, (s.by, l)))

  abbrev pub clean? : Dec (CommittedReads ls)
  clean? =
      like? clean cleaned
      (all? Clean (rows ls)
      (λ r. if? (kind_is? Read r) (either? (eq? (named r) 0)
      (any? (DoneBefore r) (rows ls) (λ d. both? (kind_is? Done d) (both? (eq? (by d) (named r)) (lt? d.place r.place)))))))

-- what a computation came to
abbrev pub came_to : {P : Type 0} → Dec P → Bool
came_to (yes p) = true
came_to (no n) = false

right : {P : Type 0} (d : Dec P) → Decides (came_to d) P
right (yes p) = (λ _. p, λ _. refl)
right (no n) = (λ t. absurd (false≢true t), λ p. absurd (n p))

module _ (ls : List Line) where
  abbrev pub direct : List Edge
  direct = steps (read_of ls) (written ls)

  abbrev pub edges : List Edge
  edges = chains direct (length ls)

  module _ (all : Closed direct edges) where
    abbrev pub cons? : Dec (ConsistentSnapshots (history_of ls))
    cons? = consistent? (history_of ls) (read_of ls) (written ls) (ended ls) (told ls) (length ls) all

    abbrev pub wcf? : Dec (WriteConflictFree (history_of ls))
    wcf? = conflict_free? (history_of ls) (read_of ls) (written ls) (ended ls) (told ls) (length ls) all

    abbrev pub verdict_of : Verdict
    verdict_of = record { aca = came_to (clean? ls); cons = came_to cons?; wcf = came_to wcf? }

    judged_of : Judged ls verdict_of
    judged_of = record { aca = right (clean? ls); cons = right cons?; wcf = right wcf? }

  -- the verdict, where the edges are all dependences
  abbrev pub verdict_by : Dec (Closed direct edges) → Option Verdict
  verdict_by (no n) = None
  verdict_by (yes all) = Some (verdict_of all)

  abbrev pub found : Option Verdict
  found = verdict_by (closed? direct edges)

  judged_by : (d : Dec (Closed direct edges)) (v : Verdict) → verdict_by d ≡ Some v → Judged ls v
  judged_by (no n) v e = let z : ◌≡◌ {A = ℕ} 0 1 = cc in absurd (omega arith)
  judged_by (yes all) v e = let q : verdict_of all ≡ v = cc in subst (λ v. Judged ls v) q (judged_of all)

  pub judged : (v : Verdict) → found ≡ Some v → Judged ls v
  judged v e = judged_by (closed? direct edges) v e
