-- The law of the calls, over the account alone: no stamp, shelf or book is in it. Assumes nothing.
--     CommittedVersion a x k     version k of card x is there, and is version 0 or was written by a committed transaction
--     Snapshot a t                what t has read so far: committed versions, and consistent
--     FirstRead a t x n          version n is right for t's first read of card x: it keeps the snapshot, and every newer one would break it
--     RightAnswer a t x r        what a granted read answers: the version read before, or a right one; the words are t's own last draft,
--                                 else that version's
--     ReadLaw a t x r             r is a lawful answer to a read of card x by t
--     DraftLaw a t x r            r is a lawful answer to a draft for card x by t
--     CommitLaw a t r             r is a lawful answer to the commit of t
--     OpenLaw a r, EndLaw a t r   r is a lawful answer to an open; to an abandon of t
--     ReadElsewhereLaw a t x f, CommitElsewhereLaw a t f
--                                 f is a lawful refusal of a read of card x by t, of the commit of t, with a shelf of another set-up
-- A transaction is t, a card x; `a.opened t` says that t is open, and cards below `a.listed` are listed.
use Rattle.std.specs.Prelude.{◌≡◌, ℕ, suc, ◌<◌, ◌≤◌, true, false, ◌⊎◌, [], length, Ok, Err, Result}
use Rattle.isolation.specs.History.{Consistent, Clash}
use Rattle.isolation.specs.Account.{Account, has_read, drafted, draft_of, after_read, after_commit}
use Rattle.isolation.specs.AccountHistory.{Reads, history}
use Rattle.transactions.specs.declared.reading.Reading.{Reading as Answer}
use Rattle.transactions.specs.declared.refusal.Refusal.{Refusal}
use Rattle.transactions.specs.declared.refusal.Refusal.TheVariants as refusals
use Rattle.transactions.specs.State.{most_drafts, most_numbers}

pub record CommittedVersion (a : Account) (x k : ℕ) : Type 0 where
  pub exists : k ≤ a.newest x
  pub committed : (k ≡ 0) ⊎ (a.committed (a.writer x k) ≡ true)

pub record Snapshot (a : Account) (t : ℕ) : Type 0 where
  pub committed : (x k : ℕ) → Reads a t x k → CommittedVersion a x k
  pub consistent : Consistent (history a) t

pub record FirstRead (a : Account) (t x n : ℕ) : Type 0 where
  pub committed : CommittedVersion a x n
  pub keeps : Snapshot (after_read a t x n) t
  pub newest : (m : ℕ) → n < m → CommittedVersion a x m → Consistent (history (after_read a t x m)) t → ⊥

pub record RightAnswer (a : Account) (t x : ℕ) (r : Answer) : Type 0 where
  pub again : (k : ℕ) → Reads a t x k → r.version.0 ≡ k
  pub first : has_read (a.reads t) x ≡ false → FirstRead a t x r.version.0
  pub words : r.value ≡ draft_of (a.drafts t) x (a.value x r.version.0)

-- An open transaction's read of a listed card is never refused.
pub record ReadLaw (a : Account) (t x : ℕ) (r : Result Answer Refusal) : Type 0 where
  pub snapshot : a.opened t ≡ true → Snapshot a t
  pub granted : a.opened t ≡ true → x < a.listed → (k : Answer) × (r ≡ Ok k) × RightAnswer a t x k
  pub unlisted : a.opened t ≡ true → a.listed ≤ x → r ≡ Err refusals.NoCard
  pub shut : a.opened t ≡ false → r ≡ Err refusals.NotOpen

-- An open transaction's draft for a card that it has read is granted up to 32 cards.
pub record DraftLaw (a : Account) (t x : ℕ) (r : Result (Unit {0}) Refusal) : Type 0 where
  pub again : a.opened t ≡ true → drafted (a.drafts t) x ≡ true → r ≡ Ok tt
  pub granted : a.opened t ≡ true → has_read (a.reads t) x ≡ true → length (a.drafts t) < most_drafts → r ≡ Ok tt
  pub full : a.opened t ≡ true → has_read (a.reads t) x ≡ true → drafted (a.drafts t) x ≡ false → most_drafts ≤ length (a.drafts t)
      → r ≡ Err refusals.DraftsOut
  pub unread : a.opened t ≡ true → x < a.listed → has_read (a.reads t) x ≡ false → r ≡ Err refusals.Unread
  pub unlisted : a.opened t ≡ true → a.listed ≤ x → r ≡ Err refusals.NoCard
  pub shut : a.opened t ≡ false → r ≡ Err refusals.NotOpen

-- An open transaction's commit is refused as a conflict exactly when granting it would let two independent committed transactions write
-- one card. Other refusals are for want of room alone, and without drafts there is none.
pub record CommitLaw (a : Account) (t : ℕ) (r : Result (Unit {0}) Refusal) : Type 0 where
  pub conflict : a.opened t ≡ true → r ≡ Err refusals.Conflict → Clash (history (after_commit a t))
  pub clash : a.opened t ≡ true → Clash (history (after_commit a t)) → r ≡ Err refusals.Conflict
  pub plain : a.opened t ≡ true → a.drafts t ≡ [] → r ≡ Ok tt
  pub refused : a.opened t ≡ true → (f : Refusal) → r ≡ Err f
      → (f ≡ refusals.Conflict) ⊎ ((f ≡ refusals.NoPlace) ⊎ (f ≡ refusals.JournalFull))
  pub shut : a.opened t ≡ false → r ≡ Err refusals.NotOpen

-- The numbers given are 1, 2, .. up to 1,000,000.
pub record OpenLaw (a : Account) (r : Result ℕ Refusal) : Type 0 where
  pub next : (n : ℕ) → r ≡ Ok n → (n ≡ suc a.given) × (n ≤ most_numbers) × (a.opened n ≡ false)
  pub refused : (f : Refusal) → r ≡ Err f → (f ≡ refusals.AllOpen) ⊎ ((f ≡ refusals.NumbersOut) × (a.given ≡ most_numbers))

pub record EndLaw (a : Account) (t : ℕ) (r : Result (Unit {0}) Refusal) : Type 0 where
  pub granted : a.opened t ≡ true → r ≡ Ok tt
  pub shut : a.opened t ≡ false → r ≡ Err refusals.NotOpen

-- With a shelf of another set-up, what is refused is refused for that shelf, where the transaction is open and the card is listed.
pub record ReadElsewhereLaw (a : Account) (t x : ℕ) (f : Refusal) : Type 0 where
  pub other : a.opened t ≡ true → x < a.listed → f ≡ refusals.OtherShelf
  pub unlisted : a.opened t ≡ true → a.listed ≤ x → f ≡ refusals.NoCard
  pub shut : a.opened t ≡ false → f ≡ refusals.NotOpen

pub record CommitElsewhereLaw (a : Account) (t : ℕ) (f : Refusal) : Type 0 where
  pub plain : a.opened t ≡ true → a.drafts t ≡ [] → ⊥
  pub other : a.opened t ≡ true
      → (f ≡ refusals.OtherShelf) ⊎ ((f ≡ refusals.Conflict) ⊎ ((f ≡ refusals.NoPlace) ⊎ (f ≡ refusals.JournalFull)))
  pub shut : a.opened t ≡ false → f ≡ refusals.NotOpen
