-- A watched read obeys the law, and what it leaves is watched.
use Rattle.std.proofs.Common.{◌≡◌, ℕ, zero, suc, ◌<◌, ◌≤◌, true, false, cond, ltb, ◌⊎◌, Some, Ok, Err, refl, ap, ◌∙◌, inl, inr, arith}
use Rattle.std.proofs.lemmas.Bool.{cases_Bool, both_ways, cond-true, cond-false, lt-ltb, le-ltb}
use Rattle.shelf.specs.Meaning.{Meaning}
use Rattle.isolation.specs.Account.{Account, has_read, draft_of, after_read}
use Rattle.isolation.specs.AccountHistory.{Reads}
use Rattle.isolation.specs.Lawful.{Lawful, NewestFit}
use Rattle.isolation.proofs.Facts.{reads_once}
use Rattle.isolation.proofs.Lists.{some_read}
use Rattle.isolation.proofs.ReadLaw.{read_lawful, newer_breaks}
use Rattle.isolation.proofs.Newest.{newest_fits}
use Rattle.transactions.specs.declared.reading.Reading.{Reading as Answer}
use Rattle.transactions.specs.declared.refusal.Refusal.TheVariants as refusals
use Rattle.transactions.specs.State.{State}
use Rattle.transactions.specs.Choosing.{stamps_of, newest_fit, or_newest, chosen, other_shelf}
use Rattle.transactions.specs.Calls.{read_at, read_by, read_answer}
use Rattle.transactions.specs.Law.{CommittedVersion, RightAnswer, ReadLaw}
use Rattle.transactions.specs.Watched.{told, Watched}
use Rattle.transactions.proofs.Ties.{held_open, held_shut}
use Rattle.transactions.proofs.Choosing.{version_read_has, version_read_none, version_read_some, newest_fit_best}
use Rattle.transactions.proofs.Seen.{lawful_snapshot, newest_is, value_is, same_shelf}

-- what the books say of a read at version k, and the answer
abbrev pub answered : Account → (t x k : ℕ) → Answer
answered a t x k = record { version = record { 0 = k }; value = draft_of (a.drafts t) x (a.value x k) }

-- the version chosen: the one read before, or the newest that fits
pub record Chosen (a : Account) (m : Meaning) (t x k : ℕ) : Type 0 where
  pub is : chosen m (a.reads t) x ≡ Some k
  pub exists : k ≤ a.newest x
  pub again : has_read (a.reads t) x ≡ true → Reads a t x k
  pub first : has_read (a.reads t) x ≡ false → NewestFit a (stamps_of m) t x k

module _ (a : Account) (m : Meaning) (b : State) (w : Watched a m b) (t x : ℕ) where
  pub choose : x < a.listed → (k : ℕ) × Chosen a m t x k
  choose lx = go (cases_Bool (has_read (a.reads t) x))
    where
      go : (has_read (a.reads t) x ≡ true) ⊎ (has_read (a.reads t) x ≡ false) → (k : ℕ) × Chosen a m t x k
      go (inl h) =
          let (k, e) = version_read_some (a.reads t) x h in
          let r : Reads a t x k = version_read_has (a.reads t) x k e in (
            k,
            record {
              is = ap (or_newest m (a.reads t) x) e;
              exists = w.lawful.kept.read_exists t x k r;
              again = λ q. r;
              first = λ q. absurd (both_ways (has_read (a.reads t) x) q h);
            },
          )
      go (inr h) =
          let (j, f) = newest_fits a (stamps_of m) w.lawful t x lx in
          let (k, e, c) = newest_fit_best m (a.reads t) x (a.newest x) j f.exists f.fits in (
            k,
            record {
              is = ap (or_newest m (a.reads t) x) (version_read_none (a.reads t) x h)
                  ∙ ap (newest_fit m (a.reads t) x) (newest_is a m w.shelved x lx) ∙ e;
              exists = c.within;
              again = λ q. absurd (both_ways (has_read (a.reads t) x) h q);
              first = λ q. record { exists = c.within; fits = c.fits; newest = c.newest };
            },
          )

  module _ (o : a.opened t ≡ true) where
    by_told : read_answer b m t x ≡ read_by b m x (Some (told a t))
    by_told = ap (read_by b m x) (held_open a b w.tied t o)

    pub read_unlisted : a.listed ≤ x → read_answer b m t x ≡ Err refusals.NoCard
    read_unlisted le =
        by_told ∙ cond-false (ltb x b.cards)
        (cond (other_shelf b m (a.reads t)) (Err refusals.OtherShelf) (read_at m (a.drafts t) x (chosen m (a.reads t) x)))
        (Err refusals.NoCard) (le-ltb x b.cards (omega (arith, w.cards)))

    pub read_listed : x < a.listed → (k : ℕ) → Chosen a m t x k → read_answer b m t x ≡ Ok (answered a t x k)
    read_listed lx k c =
        by_told
        ∙ cond-true (ltb x b.cards)
        (cond (other_shelf b m (a.reads t)) (Err refusals.OtherShelf) (read_at m (a.drafts t) x (chosen m (a.reads t) x)))
        (Err refusals.NoCard) (lt-ltb x b.cards (omega (arith, w.cards)))
        ∙ cond-false (other_shelf b m (a.reads t)) (Err refusals.OtherShelf) (read_at m (a.drafts t) x (chosen m (a.reads t) x))
        (same_shelf a m b w t)
        ∙ ap (read_at m (a.drafts t) x) c.is
        ∙ ap (λ v. Ok (record { version = record { 0 = k }; value = draft_of (a.drafts t) x v }))
        (value_is a m w.shelved x k lx c.exists)

    -- the account with the read is lawful
    pub chosen_lawful : x < a.listed → (k : ℕ) → Chosen a m t x k → Lawful (after_read a t x k) (stamps_of m)
    chosen_lawful lx k c =
        read_lawful a (stamps_of m) w.lawful t x k o lx c.exists (λ q. (c.first q).fits)

    committed : (l : Lawful a (stamps_of m)) (n : ℕ) → n ≤ a.newest x → CommittedVersion a x n
    committed l zero le = record { exists = le; committed = inl refl }
    committed l (suc n) le = record {
      exists = le;
      committed = inr (l.kept.writer_done (a.writer x (suc n)) x (suc n) (omega arith, le, refl));
    }

    right : x < a.listed → (k : ℕ) → Chosen a m t x k → RightAnswer a t x (answered a t x k)
    right lx k c = record {
      again = λ j r. reads_once a (stamps_of m) w.lawful t x k j (c.again (some_read (a.reads t) x j r)) r;
      first = λ q. record {
        committed = committed w.lawful k c.exists;
        keeps = lawful_snapshot (after_read a t x k) m (chosen_lawful lx k c) t;
        newest = λ j lt v. newer_breaks a (stamps_of m) w.lawful t x k j o lx q (c.first q) lt v.exists;
      };
      words = refl;
    }

  pub shut_answer : a.opened t ≡ false → read_answer b m t x ≡ Err refusals.NotOpen
  shut_answer e = ap (read_by b m x) (held_shut a b w.tied t e)

  pub read_law : ReadLaw a t x (read_answer b m t x)
  read_law = record {
    snapshot = λ o. lawful_snapshot a m w.lawful t;
    granted = λ o lx. let (k, c) = choose lx in (answered a t x k, read_listed o lx k c, right o lx k c);
    unlisted = λ o le. read_unlisted o le;
    shut = shut_answer;
  }
