-- The search for a transaction without an end, against what the rules say of it. Assumes nothing.
use Rattle.std.proofs.Common.{◌≡◌, ℕ, zero, suc, ◌+◌, ◌<◌, Bool, true, false, cond, List, [], ◌∷◌, Some, None, Option, refl, ap, subst, inl, inr, arith}
use Rattle.std.proofs.lemmas.Bool.{cases_order}
use Rattle.std.proofs.lemmas.Bool.Decides.{not_from_Decides}
use Rattle.std.proofs.lemmas.Option.{none-some, same_Some}
use Rattle.records.specs.declared.line.Line.{Line}
use Rattle.rules.specs.Rules.{some, ends, unended}
use Rattle.rules.specs.Lines.{At, Ends, AllEnd, FirstUnended}
use Rattle.rules.proofs.SomeLaws.{some_ends}

-- what the search finds in the lines ls, which stand from place i on
pub record Open (ls all : List Line) (i p : ℕ) : Type 0 where
  pub place : ℕ
  pub line : Line
  pub is : p ≡ i + place
  pub at : At ls place line
  pub none : some (ends line.transaction.0) all ≡ false
  pub before : (j : ℕ) (l : Line) → j < place → At ls j l → some (ends l.transaction.0) all ≡ true

abbrev pub Found : List Line → List Line → ℕ → Option ℕ → Type 0
Found ls all i None = (j : ℕ) (l : Line) → At ls j l → some (ends l.transaction.0) all ≡ true
Found ls all i (Some p) = Open ls all i p

found : (ls all : List Line) (i : ℕ) → Found ls all i (unended ls all i)
found [] all i = λ j l at. absurd (none-some l at)
found (l ∷ ls) all i = one (some (ends l.transaction.0) all) refl (unended ls all (suc i)) (found ls all (suc i))
  where
    one : (b : Bool) → some (ends l.transaction.0) all ≡ b → (o : Option ℕ) → Found ls all (suc i) o → Found (l ∷ ls) all i (cond b o (Some i))
    one true e None h = each
      where
        each : (j : ℕ) (m : Line) → At (l ∷ ls) j m → some (ends m.transaction.0) all ≡ true
        each zero m at = subst (λ (y : Line). some (ends y.transaction.0) all ≡ true) (same_Some l m at) e
        each (suc j) m at = h j m at
    one true e (Some p) h = record {
      place = suc h.place;
      line = h.line;
      is = omega (arith, h.is);
      at = h.at;
      none = h.none;
      before = each;
    }
      where
        each : (j : ℕ) (m : Line) → j < suc h.place → At (l ∷ ls) j m → some (ends m.transaction.0) all ≡ true
        each zero m lt at = subst (λ (y : Line). some (ends y.transaction.0) all ≡ true) (same_Some l m at) e
        each (suc j) m lt at = h.before j m (omega arith) at
    one false e o h = record {
      place = 0;
      line = l;
      is = omega arith;
      at = refl;
      none = e;
      before = λ j m lt at. absurd (omega arith);
    }

module _ (ls : List Line) where
  -- the answer of the search, in the rules' words
  abbrev pub EndsSay : Option ℕ → Type 0
  EndsSay None = AllEnd ls
  EndsSay (Some p) = FirstUnended ls p

  pub ends_say : EndsSay (unended ls ls 0)
  ends_say = in_words (unended ls ls 0) (found ls ls 0)
    where
      has_end : (t : ℕ) (m : Line) → m.transaction.0 ≡ t → some (ends m.transaction.0) ls ≡ true → Ends ls t
      has_end t m e h = subst (Ends ls) e ((some_ends ls m.transaction.0).0 h)

      in_words : (o : Option ℕ) → Found ls ls 0 o → EndsSay o
      in_words None h = λ i t (k, s). has_end t s.line s.by (h i s.line s.at)
      in_words (Some p) h =
          let e : h.place ≡ p = omega (arith, h.is) in
          subst (FirstUnended ls) e (record {
            transaction = h.line.transaction.0;
            begins = record {
              here = (h.line.kind, record { line = h.line; at = h.at; kind = refl; by = refl });
              first = λ j lt (k, s). missing (subst (Ends ls) s.by ((some_ends ls s.line.transaction.0).0 (h.before j s.line lt s.at)));
            };
            unended = missing;
            earliest = λ j t lt b. has_end t b.here.1.line b.here.1.by (h.before j b.here.1.line lt b.here.1.at);
          })
        where
          missing : ¬ Ends ls h.line.transaction.0
          missing = not_from_Decides (some (ends h.line.transaction.0) ls) (some_ends ls h.line.transaction.0) h.none

  pub all_end_none : AllEnd ls → unended ls ls 0 ≡ None
  all_end_none all = go (unended ls ls 0) ends_say
    where
      go : (o : Option ℕ) → EndsSay o → o ≡ None
      go None h = refl
      go (Some p) h = absurd (h.unended (all p h.transaction h.begins.here))

  -- no two places are that of the earliest transaction without an end
  one_first : (p q : ℕ) → FirstUnended ls p → FirstUnended ls q → p ≡ q
  one_first p q a b = elim (cases_order p q) [
    | inl e ↦ e
    | inr (inl lt) ↦ absurd (a.unended (b.earliest p a.transaction lt a.begins))
    | inr (inr gt) ↦ absurd (b.unended (a.earliest q b.transaction gt b.begins))
  ]

  pub first_unended : (p : ℕ) → FirstUnended ls p → unended ls ls 0 ≡ Some p
  first_unended p a = go (unended ls ls 0) ends_say
    where
      go : (o : Option ℕ) → EndsSay o → o ≡ Some p
      go None h = absurd (a.unended (h p a.transaction a.begins.here))
      go (Some q) h = ap (λ k. Some k) (one_first q p h a)
