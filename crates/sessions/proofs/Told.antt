-- What a watched shelf answers to questions is lawful.
use Rattle.std.proofs.Common.{◌≡◌, ℕ, ◌<◌, ◌≤◌, ltb, length, Some, None, Option, unwrap_or, sym, refl, ap, ◌∙◌, subst, arith}
use Rattle.std.specs.Option.{option_map}
use Rattle.std.proofs.lemmas.Bool.{cond-true, cond-false, lt-ltb, le-ltb}
use Rattle.stamps.specs.declared.stamp.Stamp.{Stamp}
use Rattle.stamps.specs.Entries.{entries}
use Rattle.shelf.specs.Meaning.{Version, Meaning, version_at}
use Rattle.shelf.specs.Questions.{versions_of, stamp_of}
use Rattle.shelf.specs.Sound.{Sound}
use Rattle.isolation.specs.Account.{Account}
use Rattle.transactions.specs.State.{State}
use Rattle.transactions.specs.Choosing.{stamps_of}
use Rattle.transactions.specs.Watched.{Watched}
use Rattle.transactions.proofs.Places.{none_some, some_same, nth_within}
use Rattle.transactions.proofs.Theorems.{stamps_are_vectors, journal_is_history}
use Rattle.sessions.specs.Laws.{VersionsLaw, Vector, StampLaw, JournalLaw}

module _ (a : Account) (m : Meaning) (b : State) (s : Sound m) (w : Watched a m b) where
  pub versions_told : (x : ℕ) (r : Option ℕ) → r ≡ versions_of m x → VersionsLaw a x r
  versions_told x r e = record {
    listed = λ lt.
        e ∙ cond-true (ltb x m.cards) (Some (length (m.line x))) None (lt-ltb x m.cards (omega (arith, w.shelved.cards)))
        ∙ ap Some (w.shelved.versions x lt);
    unlisted = λ le. e ∙ cond-false (ltb x m.cards) (Some (length (m.line x))) None (le-ltb x m.cards (omega (arith, w.shelved.cards)));
  }

  -- past a card's newest version there is none
  none_past : (x k : ℕ) → length (m.line x) ≤ k → version_at m x k ≡ None
  none_past x k le = go (version_at m x k) refl
    where
      go : (o : Option Version) → version_at m x k ≡ o → o ≡ None
      go None e = refl
      go (Some v) e = let lt : k < length (m.line x) = nth_within (m.line x) k v e in absurd (omega arith)

  no_stamp : (x k : ℕ) (r : Option Stamp) → option_map entries r ≡ stamp_of m x k → version_at m x k ≡ None → r ≡ None
  no_stamp x k None e f = refl
  no_stamp x k (Some q) e f =
      absurd (none_some (sym (ap (option_map (λ (v : Version). v.stamp)) f) ∙ sym e))

  some_stamp : (x k : ℕ) (r : Option Stamp) (v : Version) → option_map entries r ≡ stamp_of m x k → version_at m x k ≡ Some v
      → (q : Stamp) × (r ≡ Some q) × Vector a x k (entries q)
  some_stamp x k None v e f = absurd (none_some (e ∙ ap (option_map (λ (u : Version). u.stamp)) f))
  some_stamp x k (Some q) v e f =
      let same : entries q ≡ v.stamp = some_same (e ∙ ap (option_map (λ (u : Version). u.stamp)) f) in
      let told = stamps_are_vectors a m b w in (
        q,
        refl,
        record {
          stamps = stamps_of m;
          solves = told.solves;
          alone = told.alone;
          counts = λ y. ap (λ (g : ℕ → ℕ). g y) same ∙ sym (ap (λ (o : Option Version). unwrap_or (option_map (λ (u : Version). u.stamp y) o) 0) f);
        },
      )

  pub stamp_told : (x k : ℕ) (r : Option Stamp) → option_map entries r ≡ stamp_of m x k → StampLaw a x k r
  stamp_told x k r e = record {
    there = λ lt le. let h = w.shelved.holds x k lt le in some_stamp x k r h.version e h.at;
    too_new = λ lt gt. no_stamp x k r e (none_past x k (omega (arith, w.shelved.versions x lt)));
    unlisted = λ le. no_stamp x k r e (none_past x k (subst (λ l. length l ≤ k) (sym (s.no_line x (omega (arith, w.shelved.cards)))) (omega arith)));
  }

  pub journal_told : JournalLaw a b.journal
  journal_told =
      let (r, c) = journal_is_history a m b w in
      record { tells = w.journaled; rules = r; clean = c }
