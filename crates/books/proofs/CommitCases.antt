-- What a commit answers and leaves, case by case. Assumes nothing.
use Rattle.std.proofs.Common.{◌≡◌, ℕ, ◌≤◌, Bool, true, false, cond, not, ◌||◌, eqb, ltb, List, [], ◌∷◌, ◌++◌, length, set, Some, None, Ok, Err, Result, sym, refl, ap, ◌∙◌, arith}
use Rattle.std.proofs.lemmas.Bool.{ltb-false, or_parts, not-false, eqb-true}
use Rattle.shelf.specs.Meaning.{Meaning}
use Rattle.isolation.specs.Account.{Reading, Draft}
use Rattle.transactions.specs.declared.refusal.Refusal.{Refusal}
use Rattle.transactions.specs.declared.refusal.Refusal.TheVariants as refusals
use Rattle.transactions.specs.State.{Open, State, last_at, numbered, with_places, room}
use Rattle.transactions.specs.Choosing.{lacks, other_shelf}
use Rattle.transactions.specs.Committing.{outdated, crowded, block, block_length, decide, commit_of, commit_by, commit_answer, put_cards, shelf_with, journal_with, with_journal, shelf_after, commit_shelf, ends_by, books_after, commit_books}
use Rattle.entries.specs.Contents.{opening}
use Rattle.tables.specs.Tables.{at}
use Rattle.books.proofs.Held.{held_is, put_back_is}

-- with drafts the tests are made
pub commit_none : (b : State) (m : Meaning) (o : Open) (ds : List Draft) → length ds ≡ 0 → commit_of b m o ds ≡ Ok tt
commit_none b m o [] e = refl
commit_none b m o (d ∷ ds) e = absurd (omega arith)

pub commit_some : (b : State) (m : Meaning) (o : Open) (ds : List Draft) → (length ds ≡ 0 → ⊥) → commit_of b m o ds ≡ decide b m o
commit_some b m o [] e = absurd (e refl)
commit_some b m o (d ∷ ds) e = refl

pub shelf_none : (b : State) (m : Meaning) (o : Open) (ds : List Draft) → length ds ≡ 0 → shelf_with b m ds o ≡ m
shelf_none b m o [] e = refl
shelf_none b m o (d ∷ ds) e = absurd (omega arith)

pub shelf_some : (b : State) (m : Meaning) (o : Open) (ds : List Draft) → (length ds ≡ 0 → ⊥) → shelf_with b m ds o ≡ put_cards m o b.cards
shelf_some b m o [] e = absurd (e refl)
shelf_some b m o (d ∷ ds) e = refl

pub journal_none : (b : State) (m : Meaning) (o : Open) (ds : List Draft) → length ds ≡ 0 → journal_with b m ds o ≡ b.journal
journal_none b m o [] e = refl
journal_none b m o (d ∷ ds) e = absurd (omega arith)

pub journal_some : (b : State) (m : Meaning) (o : Open) (ds : List Draft) → (length ds ≡ 0 → ⊥) → journal_with b m ds o ≡ b.journal ++ block m o b.cards
journal_some b m o [] e = absurd (e refl)
journal_some b m o (d ∷ ds) e = refl

module _ (b : State) (m : Meaning) (o : Open) where
  abbrev yes_granted : Result (Unit {0}) Refusal
  yes_granted = Ok tt

  -- a decision that grants passed every test
  pub decide_passed : decide b m o ≡ Ok tt →
      (other_shelf b m o.reads ≡ false) × (crowded m o.drafts ≡ false) × (block_length o ≤ room b)
  decide_passed e =
      go (other_shelf b m o.reads) refl (outdated m o.reads o.drafts) (crowded m o.drafts) refl (ltb (room b) (block_length o)) refl e
    where
      go : (p : Bool) → other_shelf b m o.reads ≡ p → (q r : Bool) → crowded m o.drafts ≡ r → (s : Bool) → ltb (room b) (block_length o) ≡ s →
          cond p (Err refusals.OtherShelf) (cond q (Err refusals.Conflict) (cond r (Err refusals.NoPlace) (cond s (Err refusals.JournalFull) yes_granted))) ≡ yes_granted →
          (other_shelf b m o.reads ≡ false) × (crowded m o.drafts ≡ false) × (block_length o ≤ room b)
      go false x false false y false z e = (x, y, ltb-false (room b) (block_length o) z)
      go true x q r y s z e = let no : ◌≡◌ {A = ℕ} 0 1 = cc in absurd (omega arith)
      go false x true r y s z e = let no : ◌≡◌ {A = ℕ} 0 1 = cc in absurd (omega arith)
      go false x false true y s z e = let no : ◌≡◌ {A = ℕ} 0 1 = cc in absurd (omega arith)
      go false x false false y true z e = let no : ◌≡◌ {A = ℕ} 0 1 = cc in absurd (omega arith)

  pub same_cards : other_shelf b m o.reads ≡ false → m.cards ≡ b.cards
  same_cards e =
      eqb-true m.cards b.cards
      (not-false (eqb m.cards b.cards) (or_parts (not (eqb m.cards b.cards)) (not (eqb m.width b.width) || lacks m o.reads) e).0)

pub opening_is : (o : Open) (n : ℕ) (rs : List Reading) (ds : List Draft) → o.number ≡ n → rs ≡ o.reads → ds ≡ o.drafts → opening n rs ds ≡ o
opening_is o n rs ds e e' e'' = ap (λ k. opening k rs ds) (sym e) ∙ ap (λ l. opening o.number l ds) e' ∙ ap (opening o.number o.reads) e''

-- transaction n stands in place i
module _ (b : State) (m : Meaning) (n i : ℕ) (found : last_at (numbered n) b.places ≡ Some i) where
  abbrev here : Open
  here = at b.places i

  pub commit_is : commit_answer b m n ≡ commit_of b m here here.drafts
  commit_is = ap (commit_by b m) (held_is b n i found)

  pub committed_shelf : commit_of b m here here.drafts ≡ Ok tt → shelf_with b m here.drafts here ≡ commit_shelf b m n
  committed_shelf e = sym (ap (λ o. shelf_after b m o (commit_answer b m n)) (held_is b n i found) ∙ ap (shelf_after b m (Some here)) (commit_is ∙ e))

  pub committed_books : commit_of b m here here.drafts ≡ Ok tt →
      with_journal (with_places b (set b.places i None)) (journal_with b m here.drafts here) ≡ commit_books b m n
  committed_books e =
      sym (ap (λ o. books_after b m n o (commit_answer b m n)) (held_is b n i found) ∙ ap (books_after b m n (Some here)) (commit_is ∙ e)
      ∙ ap (λ s. with_journal s (journal_with b m here.drafts here)) (put_back_is b n i None found))

  pub refused_shelf : (f : Refusal) → commit_of b m here here.drafts ≡ Err f → m ≡ commit_shelf b m n
  refused_shelf f e = sym (ap (λ o. shelf_after b m o (commit_answer b m n)) (held_is b n i found) ∙ ap (shelf_after b m (Some here)) (commit_is ∙ e))

  pub refused_books : (f : Refusal) → commit_of b m here here.drafts ≡ Err f →
      cond (ends_by f) (with_places b (set b.places i None)) b ≡ commit_books b m n
  refused_books f e =
      sym (ap (λ o. books_after b m n o (commit_answer b m n)) (held_is b n i found) ∙ ap (books_after b m n (Some here)) (commit_is ∙ e)
      ∙ ap (λ s. cond (ends_by f) s b) (put_back_is b n i None found))
