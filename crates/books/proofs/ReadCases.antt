-- What a read answers and leaves, where its place was found. Assumes nothing.
use Rattle.std.proofs.Common.{◌≡◌, ℕ, zero, suc, ◌<◌, Bool, true, false, cond, ltb, List, [], ◌∷◌, ◌++◌, set, Some, None, Ok, Err, Option, Result, sym, refl, ap, ◌∙◌, arith}
use Rattle.std.specs.List.{slice_get}
use Rattle.std.proofs.lemmas.Bool.{cond-true, cond-false, ltb-true}
use Rattle.shelf.specs.Meaning.{Meaning}
use Rattle.isolation.specs.Account.{Reading, has_read}
use Rattle.transactions.specs.declared.reading.Reading.{Reading as Answer}
use Rattle.transactions.specs.declared.refusal.Refusal.{Refusal}
use Rattle.transactions.specs.declared.refusal.Refusal.TheVariants as refusals
use Rattle.transactions.specs.State.{Open, State, last_at, numbered, standing, with_places, put_back}
use Rattle.transactions.specs.Choosing.{version_read, or_newest, chosen, other_shelf}
use Rattle.transactions.specs.Calls.{read_at, read_by, read_answer, enter, with_read, read_entered, after_read}
use Rattle.books.specs.Reads.{read_tests, read_first, read_place}
use Rattle.tables.specs.Tables.{at, read_more}
use Rattle.entries.proofs.Drafts.{version_read_has, version_read_lacks}
use Rattle.books.proofs.Held.{holds_from, held_is, put_back_is}

-- what stands at a place, put there again
set_same : {X : Type 0} (ps : List (Option X)) (i : ℕ) (o : X) → standing (slice_get ps i) ≡ Some o → set ps i (Some o) ≡ ps
set_same [] i o e = refl
set_same (x ∷ ps) zero o e = ap (λ y. y ∷ ps) (sym e)
set_same (x ∷ ps) (suc i) o e = ap (λ l. x ∷ l) (set_same ps i o e)

abbrev allowed : Result (Unit {0}) Refusal
allowed = Ok tt

module _ (b : State) (m : Meaning) (x : ℕ) (o : Open) where
  pub tests_failed : (f : Refusal) → read_tests b m x o ≡ Err f → read_by b m x (Some o) ≡ Err f
  tests_failed f e = go (ltb x b.cards) (other_shelf b m o.reads) e
    where
      go : (p q : Bool) → cond p (cond q (Err refusals.OtherShelf) allowed) (Err refusals.NoCard) ≡ Err f →
          cond p (cond q (Err refusals.OtherShelf) (read_at m o.drafts x (chosen m o.reads x))) (Err refusals.NoCard) ≡ Err f
      go true true e = cc
      go true false e = let z : ◌≡◌ {A = ℕ} 0 1 = cc in absurd (omega arith)
      go false q e = cc

  pub tests_passed : read_tests b m x o ≡ Ok tt → (x < b.cards) × (read_by b m x (Some o) ≡ read_at m o.drafts x (chosen m o.reads x))
  tests_passed e = go (ltb x b.cards) refl (other_shelf b m o.reads) e
    where
      go : (p : Bool) → ltb x b.cards ≡ p → (q : Bool) → cond p (cond q (Err refusals.OtherShelf) allowed) (Err refusals.NoCard) ≡ allowed →
          (x < b.cards)
          × (cond p (cond q (Err refusals.OtherShelf) (read_at m o.drafts x (chosen m o.reads x))) (Err refusals.NoCard) ≡ read_at m o.drafts x (chosen m o.reads x))
      go true low true e = let z : ◌≡◌ {A = ℕ} 0 1 = cc in absurd (omega arith)
      go true low false e = (ltb-true x b.cards low, refl)
      go false low q e = let z : ◌≡◌ {A = ℕ} 0 1 = cc in absurd (omega arith)

-- transaction n stands in place i
module _ (b : State) (m : Meaning) (n x i : ℕ) (found : last_at (numbered n) b.places ≡ Some i) where
  abbrev here : Open
  here = at b.places i

  pub read_refused : (f : Refusal) → read_tests b m x here ≡ Err f → read_answer b m n x ≡ Err f
  read_refused f e = ap (read_by b m x) (held_is b n i found) ∙ tests_failed b m x here f e

  pub read_refused_books : (f : Refusal) → read_tests b m x here ≡ Err f → b ≡ after_read b m n x
  read_refused_books f e = sym (ap (read_entered b n x) (read_refused f e))

  pub read_known : (k : ℕ) → read_tests b m x here ≡ Ok tt → version_read here.reads x ≡ Some k →
      read_answer b m n x ≡ read_at m here.drafts x (Some k)
  read_known k ok e =
      ap (read_by b m x) (held_is b n i found) ∙ (tests_passed b m x here ok).1 ∙ ap (λ v. read_at m here.drafts x (or_newest m here.reads x v)) e

  pub read_known_books : (k : ℕ) → read_tests b m x here ≡ Ok tt → version_read here.reads x ≡ Some k → b ≡ after_read b m n x
  read_known_books k ok e =
      let old : enter here.reads x k ≡ here.reads = cond-true (has_read here.reads x) here.reads (here.reads ++ (record { card = x; version = k } ∷ [])) (version_read_has here.reads x k e) in
      let made : List Reading → Option Open = λ rs. Some (record { number = here.number; reads = rs; drafts = here.drafts }) in
      sym (ap (read_entered b n x) (read_known k ok e)
      ∙ ap (λ o. put_back b n (with_read o x k)) (held_is b n i found)
      ∙ ap (λ rs. put_back b n (made rs)) old
      ∙ put_back_is b n i (Some here) found
      ∙ ap (with_places b) (set_same b.places i here (holds_from b.places n i found).is))

  pub read_new : read_tests b m x here ≡ Ok tt → version_read here.reads x ≡ None → read_answer b m n x ≡ read_first m here x
  read_new ok e =
      ap (read_by b m x) (held_is b n i found) ∙ (tests_passed b m x here ok).1 ∙ ap (λ v. read_at m here.drafts x (or_newest m here.reads x v)) e

  entered : (r : Result Answer Refusal) → has_read here.reads x ≡ false → read_entered b n x r ≡ read_place b i x r
  entered (Ok r) out =
      let k = r.version.0 in
      let made : List Reading → Option Open = λ rs. Some (record { number = here.number; reads = rs; drafts = here.drafts }) in
      let new : enter here.reads x k ≡ here.reads ++ (record { card = x; version = k } ∷ []) =
      cond-false (has_read here.reads x) here.reads (here.reads ++ (record { card = x; version = k } ∷ [])) out in
      ap (λ o. put_back b n (with_read o x k)) (held_is b n i found) ∙ ap (λ rs. put_back b n (made rs)) new
      ∙ put_back_is b n i (Some (read_more here x k)) found
  entered (Err f) out = refl

  pub read_new_books : read_tests b m x here ≡ Ok tt → version_read here.reads x ≡ None → read_place b i x (read_first m here x) ≡ after_read b m n x
  read_new_books ok e = sym (ap (read_entered b n x) (read_new ok e) ∙ entered (read_first m here x) (version_read_lacks here.reads x e))
