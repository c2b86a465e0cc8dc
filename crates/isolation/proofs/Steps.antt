-- Set-up, open, draft, abandon and close keep the law. None of them changes the history.
use Rattle.std.proofs.Common.{◌≡◌, ℕ, suc, ◌<◌, ◌≤◌, Bool, true, false, ◌⊎◌, List, sym, refl, ◌∙◌, subst, inl, inr, arith}
use Rattle.stamps.specs.declared.value.Value.{Value}
use Rattle.std.proofs.lemmas.Bool.{cases_eq, cases_Bool, both_ways}
use Rattle.isolation.specs.Account.{Account, Draft, drafted, with_draft, at_one, updated, fresh, after_open, after_draft, after_end, after_close}
use Rattle.isolation.specs.AccountHistory.{Reads, Writes}
use Rattle.isolation.specs.Vectors.{Stamps}
use Rattle.isolation.specs.Lawful.{Kept, Lawful}
use Rattle.isolation.proofs.Lists.{at_one_here, at_one_there}
use Rattle.isolation.proofs.Drafts.{drafted_cases}

pub set_true : (f : ℕ → Bool) (t u : ℕ) → at_one f t true u ≡ true → (u ≡ t) ⊎ (f u ≡ true)
set_true f t u e = go (cases_eq u t)
  where
    go : (u ≡ t) ⊎ (u ≡ t → ⊥) → (u ≡ t) ⊎ (f u ≡ true)
    go (inl q) = inl q
    go (inr ne) = inr (sym (at_one_there f t true u ne) ∙ e)

pub set_false : (f : ℕ → Bool) (t u : ℕ) → at_one f t false u ≡ true → (u ≡ t → ⊥) × (f u ≡ true)
set_false f t u e = go (cases_eq u t)
  where
    go : (u ≡ t) ⊎ (u ≡ t → ⊥) → (u ≡ t → ⊥) × (f u ≡ true)
    go (inl q) = absurd (both_ways false refl (sym (at_one_here f t false u q) ∙ e))
    go (inr ne) = (ne, sym (at_one_there f t false u ne) ∙ e)

-- a step that changes only numbers, drafts and who is open
updated_lawful : (a : Account) (s : Stamps) (given : ℕ) (drafts : ℕ → List Draft) (opened : ℕ → Bool)
    → Lawful a s → Kept (updated a given drafts opened) → Lawful (updated a given drafts opened) s
updated_lawful a s given drafts opened l k = record {
  meant = l.meant;
  fitting = l.fitting;
  kept = k;
  vectors = record { first = l.vectors.first; writing = l.vectors.writing; reading = l.vectors.reading };
}

-- a granted set-up on n cards begins lawfully, where version 0 has a stamp of zeros
pub fresh_lawful : (n : ℕ) (s : Stamps) → ((x y : ℕ) → x < n → y < n → s x 0 y ≡ 0) → Lawful (fresh n) s
fresh_lawful n s z = record {
  meant = record {
    read_listed = λ t x k r. absurd r;
    wrote_listed = λ t x k w. absurd (none t x k w);
    wrote_above = λ t x k w. w.0;
    exists = λ t x k r. absurd r;
    sole = λ u v x k w y. sym w.2 ∙ y.2;
    chain = λ u x k w. absurd (none u x (suc k) w);
    zeros = z;
    own = λ u x k w. absurd (none u x k w);
    reached = λ u x k y j w ly p c. absurd (none u x k w);
    reaches = λ u v x k y j w i f. absurd (none u x k w);
  };
  fitting = λ t x m y l r q. absurd r;
  kept = record {
    open_given = λ t e. absurd (both_ways false refl e);
    open_undone = λ t e. refl;
    done_given = λ t e. absurd (both_ways false refl e);
    read_given = λ t x k r. absurd r;
    read_exists = λ t x k r. absurd r;
    drafted_read = λ t x e. absurd (both_ways false refl e);
    writer_done = λ t x k w. absurd (none t x k w);
  };
  vectors = record {
    first = z;
    writing = λ t x k y w ly c. absurd (none t x k w);
    reading = λ t x k y w ly c. absurd (none t x k w);
  };
}
  where
    none : (t x k : ℕ) → Writes (fresh n) t x k → ⊥
    none t x k w = omega (arith, w.0, w.1)

pub open_lawful : (a : Account) (s : Stamps) → Lawful a s → Lawful (after_open a) s
open_lawful a s l = updated_lawful a s (suc a.given) a.drafts (at_one a.opened (suc a.given) true) l (record {
  open_given = λ t e. given t (set_true a.opened (suc a.given) t e);
  open_undone = λ t e. undone t (set_true a.opened (suc a.given) t e);
  done_given = λ t e. omega (arith, l.kept.done_given t e);
  read_given = λ t x k r. omega (arith, l.kept.read_given t x k r);
  read_exists = l.kept.read_exists;
  drafted_read = l.kept.drafted_read;
  writer_done = l.kept.writer_done;
})
  where
    given : (t : ℕ) → (t ≡ suc a.given) ⊎ (a.opened t ≡ true) → (0 < t) × (t ≤ suc a.given)
    given t (inl e) = omega arith
    given t (inr e) = omega (arith, l.kept.open_given t e)

    unused : (t : ℕ) → t ≡ suc a.given → (a.committed t ≡ true) ⊎ (a.committed t ≡ false) → a.committed t ≡ false
    unused t e (inl d) = absurd (omega (arith, l.kept.done_given t d))
    unused t e (inr d) = d

    undone : (t : ℕ) → (t ≡ suc a.given) ⊎ (a.opened t ≡ true) → a.committed t ≡ false
    undone t (inl e) = unused t e (cases_Bool (a.committed t))
    undone t (inr e) = l.kept.open_undone t e

-- a draft of a card that the transaction has read
pub draft_lawful : (a : Account) (s : Stamps) (t x : ℕ) (v : Value) → Lawful a s → (k : ℕ) × Reads a t x k → Lawful (after_draft a t x v) s
draft_lawful a s t x v l r = updated_lawful a s a.given (at_one a.drafts t (with_draft (a.drafts t) x v)) a.opened l (record {
  open_given = l.kept.open_given;
  open_undone = l.kept.open_undone;
  done_given = l.kept.done_given;
  read_given = l.kept.read_given;
  read_exists = l.kept.read_exists;
  drafted_read = λ u y e. go u y e (cases_eq u t);
  writer_done = l.kept.writer_done;
})
  where
    here : (y : ℕ) → (x ≡ y) ⊎ (drafted (a.drafts t) y ≡ true) → (k : ℕ) × Reads a t y k
    here y (inl e) = (r.0, subst (λ z. Reads a t z r.0) e r.1)
    here y (inr e) = l.kept.drafted_read t y e

    go : (u y : ℕ) → drafted (at_one a.drafts t (with_draft (a.drafts t) x v) u) y ≡ true
        → (u ≡ t) ⊎ (u ≡ t → ⊥) → (k : ℕ) × Reads a u y k
    go u y e (inl q) =
        let d : drafted (with_draft (a.drafts t) x v) y ≡ true
        = subst (λ ds. drafted ds y ≡ true) (at_one_here a.drafts t (with_draft (a.drafts t) x v) u q) e in
        subst (λ w. (k : ℕ) × Reads a w y k) (sym q) (here y (drafted_cases x v (a.drafts t) y d))
    go u y e (inr ne) =
        l.kept.drafted_read u y
        (subst (λ ds. drafted ds y ≡ true) (at_one_there a.drafts t (with_draft (a.drafts t) x v) u ne) e)

-- fewer are open, and nothing else changes
fewer_lawful : (a : Account) (s : Stamps) (opened : ℕ → Bool) → Lawful a s → ((t : ℕ) → opened t ≡ true → a.opened t ≡ true)
    → Lawful (updated a a.given a.drafts opened) s
fewer_lawful a s opened l f = updated_lawful a s a.given a.drafts opened l (record {
  open_given = λ t e. l.kept.open_given t (f t e);
  open_undone = λ t e. l.kept.open_undone t (f t e);
  done_given = l.kept.done_given;
  read_given = l.kept.read_given;
  read_exists = l.kept.read_exists;
  drafted_read = l.kept.drafted_read;
  writer_done = l.kept.writer_done;
})

-- an abandon, or a conflict
pub end_lawful : (a : Account) (s : Stamps) (t : ℕ) → Lawful a s → Lawful (after_end a t) s
end_lawful a s t l = fewer_lawful a s (at_one a.opened t false) l (λ u e. (set_false a.opened t u e).1)

pub close_lawful : (a : Account) (s : Stamps) → Lawful a s → Lawful (after_close a) s
close_lawful a s l = fewer_lawful a s (λ t. false) l (λ t e. absurd (both_ways false refl e))
