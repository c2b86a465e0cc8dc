-- The test of drafted cards against their newest versions, in the account's words.
use Rattle.std.proofs.Common.{◌≡◌, ℕ, ◌<◌, true, false, not, eqb, ◌⊎◌, List, [], ◌∷◌, Some, None, Option, refl, ap, ◌∙◌, subst, inl, inr, arith}
use Rattle.std.proofs.lemmas.Bool.{cases_Bool, both_ways, eqb-true, eqb-false, eq-eqb, not-true, not-false, or_parts, or_cases, or_left, or_right}
use Rattle.shelf.specs.Meaning.{Meaning, newest}
use Rattle.isolation.specs.Account.{Account, Reading, Draft, drafted}
use Rattle.isolation.specs.Lawful.{Lawful, Outdated, Current}
use Rattle.isolation.proofs.Facts.{reads_once}
use Rattle.isolation.proofs.Lists.{some_read}
use Rattle.transactions.specs.Choosing.{stamps_of, version_read}
use Rattle.transactions.specs.Committing.{is_version, outdated}
use Rattle.transactions.specs.Shelved.{Shelved}
use Rattle.transactions.proofs.Choosing.{version_read_has, version_read_some}
use Rattle.transactions.proofs.Seen.{newest_is}

is_version_tells : (o : Option ℕ) (n : ℕ) → is_version o n ≡ true → o ≡ Some n
is_version_tells None n e = absurd (both_ways false refl e)
is_version_tells (Some k) n e = ap Some (eqb-true k n e)

-- where nothing is outdated, a drafted card was read at its newest version
not_outdated : (m : Meaning) (rs : List Reading) (ds : List Draft) (x : ℕ) → outdated m rs ds ≡ false → drafted ds x ≡ true
    → version_read rs x ≡ Some (newest m x)
not_outdated m rs [] x e d = absurd (both_ways false refl d)
not_outdated m rs (d ∷ ds) x e h =
    go (or_cases (eqb d.card x) (drafted ds x) h)
    (or_parts (not (is_version (version_read rs d.card) (newest m d.card))) (outdated m rs ds) e)
    (λ p q. not_outdated m rs ds x p q)
  where
    go : (eqb d.card x ≡ true) ⊎ (drafted ds x ≡ true)
        → (not (is_version (version_read rs d.card) (newest m d.card)) ≡ false) × (outdated m rs ds ≡ false)
        → (outdated m rs ds ≡ false → drafted ds x ≡ true → version_read rs x ≡ Some (newest m x)) → version_read rs x ≡ Some (newest m x)
    go (inl q) p more =
        subst (λ y. version_read rs y ≡ Some (newest m y)) (eqb-true d.card x q)
        (is_version_tells (version_read rs d.card) (newest m d.card)
        (not-false (is_version (version_read rs d.card) (newest m d.card)) p.0))
    go (inr q) p more = more p.1 q

-- where something is, one drafted card was not
some_outdated : (m : Meaning) (rs : List Reading) (ds : List Draft) → outdated m rs ds ≡ true
    → (x : ℕ) × (drafted ds x ≡ true) × (is_version (version_read rs x) (newest m x) ≡ false)
some_outdated m rs [] e = absurd (both_ways false refl e)
some_outdated m rs (d ∷ ds) e =
    go (or_cases (not (is_version (version_read rs d.card) (newest m d.card))) (outdated m rs ds) e) (λ q. some_outdated m rs ds q)
  where
    go : (not (is_version (version_read rs d.card) (newest m d.card)) ≡ true) ⊎ (outdated m rs ds ≡ true)
        → (outdated m rs ds ≡ true → (x : ℕ) × (drafted ds x ≡ true) × (is_version (version_read rs x) (newest m x) ≡ false))
        → (x : ℕ) × (drafted (d ∷ ds) x ≡ true) × (is_version (version_read rs x) (newest m x) ≡ false)
    go (inl q) more = (
      d.card,
      or_left (eqb d.card d.card) (drafted ds d.card) (eq-eqb d.card d.card refl),
      not-true (is_version (version_read rs d.card) (newest m d.card)) q,
    )
    go (inr q) more =
        let (x, h, v) = more q in
        (x, or_right (eqb d.card x) (drafted ds x) h, v)

module _ (a : Account) (m : Meaning) (s : Shelved a m) (l : Lawful a (stamps_of m)) (t : ℕ) where
  pub drafted_listed : (x : ℕ) → drafted (a.drafts t) x ≡ true → x < a.listed
  drafted_listed x d = let (k, r) = l.kept.drafted_read t x d in l.meant.read_listed t x k r

  pub current_told : outdated m (a.reads t) (a.drafts t) ≡ false → Current a t
  current_told e x d =
      version_read_has (a.reads t) x (a.newest x)
      (not_outdated m (a.reads t) (a.drafts t) x e d ∙ ap Some (newest_is a m s x (drafted_listed x d)))

  pub outdated_told : outdated m (a.reads t) (a.drafts t) ≡ true → Outdated a t
  outdated_told e =
      let (x, d, v) = some_outdated m (a.reads t) (a.drafts t) e in
      let (k, r) = l.kept.drafted_read t x d in
      let (j, q) = version_read_some (a.reads t) x (some_read (a.reads t) x k r) in
      found x d j q (subst (λ o. is_version o (newest m x) ≡ false) q v)
    where
      found : (x : ℕ) → drafted (a.drafts t) x ≡ true → (j : ℕ) → version_read (a.reads t) x ≡ Some j → eqb j (newest m x) ≡ false → Outdated a t
      found x d j q v = record {
        card = x;
        version = j;
        draft = d;
        read = version_read_has (a.reads t) x j q;
        newer = omega (
          arith,
          eqb-false j (newest m x) v,
          newest_is a m s x (drafted_listed x d),
          l.kept.read_exists t x j (version_read_has (a.reads t) x j q),
        );
      }

  pub told_outdated : Outdated a t → outdated m (a.reads t) (a.drafts t) ≡ true
  told_outdated b = go (cases_Bool (outdated m (a.reads t) (a.drafts t)))
    where
      go : (outdated m (a.reads t) (a.drafts t) ≡ true) ⊎ (outdated m (a.reads t) (a.drafts t) ≡ false)
          → outdated m (a.reads t) (a.drafts t) ≡ true
      go (inl e) = e
      go (inr e) =
          absurd (omega (
            arith,
            b.newer,
            reads_once a (stamps_of m) l t b.card b.version (a.newest b.card) b.read (current_told e b.card b.draft),
          ))
