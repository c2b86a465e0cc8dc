-- A commit with drafts adds its block to the journal.
use Rattle.std.proofs.Common.{◌≡◌, ℕ, zero, suc, ◌<◌, ◌≤◌, true, ◌⊎◌, List, Some, unwrap_or, sym, refl, ap, ◌∙◌, subst, inl, inr, arith}
use Rattle.std.specs.Option.{option_map}
use Rattle.stamps.specs.declared.numbers.TxNo.{TxNo}
use Rattle.records.specs.declared.line.Line.{Line}
use Rattle.shelf.specs.Meaning.{Version, Meaning, first_version}
use Rattle.shelf.specs.Sound.{Sound}
use Rattle.verdicts.specs.Verdicts.{WritAt}
use Rattle.isolation.specs.Account.{Account, has_read}
use Rattle.isolation.specs.AccountHistory.{Reads, Writes}
use Rattle.isolation.specs.Lawful.{Lawful}
use Rattle.isolation.proofs.Lists.{some_read}
use Rattle.isolation.proofs.Facts.{writer_given}
use Rattle.isolation.proofs.Reading.{open_silent}
use Rattle.transactions.specs.State.{most_numbers}
use Rattle.transactions.specs.Choosing.{stamps_of}
use Rattle.transactions.specs.Committing.{writer_at}
use Rattle.transactions.specs.Journaled.{Writer, Named, Journaled}
use Rattle.transactions.specs.Shelved.{Held, Shelved}
use Rattle.transactions.specs.Watched.{told}
use Rattle.transactions.proofs.Places.{some_same}
use Rattle.transactions.proofs.Choosing.{version_read_has, version_read_some}
use Rattle.transactions.proofs.Blocks.{named}
use Rattle.transactions.proofs.BlockRules.{Fit}

module _ (a : Account) (m : Meaning) (so : Sound m) (s : Shelved a m) (l : Lawful a (stamps_of m)) (few : a.given ≤ most_numbers)
    (t : ℕ) (o : a.opened t ≡ true) where
  -- the writer that the shelf names is the account's
  writer_named : (x k : ℕ) → x < a.listed → k ≤ a.newest x → writer_at m x (Some k) ≡ a.writer x k
  writer_named x k lx le =
      let h : Held a m x k = s.holds x k lx le in
      ap (λ p. (unwrap_or {T = TxNo} (option_map (λ (v : Version). record { 0 = v.writer }) p) (record { 0 = 0 })).0) h.at ∙ h.writer

  first_nobody : (x : ℕ) → x < a.listed → a.writer x 0 ≡ 0
  first_nobody x lx =
      let h : Held a m x 0 = s.holds x 0 lx (omega arith) in
      let e : h.version ≡ first_version = some_same (sym h.at ∙ so.first x (omega (arith, s.cards))) in
      sym h.writer ∙ ap (λ (v : Version). v.writer) e

  version_named : (x k : ℕ) → x < a.listed → k ≤ a.newest x → Named a x k (writer_at m x (Some k))
  version_named x zero lx le = inl (refl, writer_named x zero lx le ∙ first_nobody x lx)
  version_named x (suc k) lx le = inr (omega arith, le, sym (writer_named x (suc k) lx le))

  pub read_named : (x : ℕ) → has_read (a.reads t) x ≡ true → (k : ℕ) × Reads a t x k × Named a x k (named m (told a t) x)
  read_named x h =
      let (k, e) = version_read_some (a.reads t) x h in
      let r : Reads a t x k = version_read_has (a.reads t) x k e in
      (k, r, subst (λ v. Named a x k (writer_at m x v)) (sym e) (version_named x k (l.meant.read_listed t x k r) (l.kept.read_exists t x k r)))

  -- a writer is committed, so it is not t
  pub writer_other : (u : ℕ) → Writer a u → u ≡ t → ⊥
  writer_other u (x, (k, w)) e = open_silent a l.kept t o x k (subst (λ v. Writes a v x k) e w)

  module _ (ls : List Line) (j : Journaled a ls) where
    pub fit : Fit ls m (told a t) a.listed
    fit = record {
      fresh = λ i k e q. writer_other k.transaction.0 (j.by_writer i k e) q;
      numbered = let (p, q) = l.kept.open_given t o in (p, below t q);
      few = subst (λ n. n ≤ 256) s.cards so.few;
      has_reading = λ x d. let (k, r) = l.kept.drafted_read t x d in some_read (a.reads t) x k r;
      small = λ x lx h. small x (read_named x h);
      another = λ x lx h. another x (read_named x h);
      written = λ x lx h. written x (read_named x h);
    }
      where
        below : (u : ℕ) → u ≤ a.given → u ≤ 1000000
        below u le = omega (arith, few)

        small : (x : ℕ) → (k : ℕ) × Reads a t x k × Named a x k (named m (told a t) x) → named m (told a t) x ≤ 1000000
        small x (k, r, inl (e, z)) = omega arith
        small x (k, r, inr w) = below (named m (told a t) x) (writer_given a (stamps_of m) l (named m (told a t) x) x k w).1

        another : (x : ℕ) → (k : ℕ) × Reads a t x k × Named a x k (named m (told a t) x) → named m (told a t) x ≡ t → ⊥
        another x (k, r, inl (e, z)) q = omega (arith, l.kept.open_given t o)
        another x (k, r, inr w) q = writer_other (named m (told a t) x) (x, (k, w)) q

        written : (x : ℕ) → (k : ℕ) × Reads a t x k × Named a x k (named m (told a t) x)
            → (named m (told a t) x ≡ 0) ⊎ ((i : ℕ) × WritAt ls i (named m (told a t) x) x)
        written x (k, r, inl (e, z)) = inl z
        written x (k, r, inr w) = inr (j.made (named m (told a t) x) x k w)
