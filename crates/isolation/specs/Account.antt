-- The account: what happened, kept from the editors' calls and their answers alone. Assumes nothing.
--     Reading, Draft              a card with the version read of it; a card with the words drafted for it
--     Account                     the cards and their versions, the numbers given, reads and drafts, who is open, who committed
--     has_read rs x               one of the readings is of card x
--     drafted ds x                one of the drafts is for card x
--     draft_of ds x v             the words drafted for card x, and v where there are none
--     with_draft ds x v           the drafts, with the words v for card x in place of earlier ones
--     at_one f t v                the function f, with v at t
--     updated a given drafts opened       a, with other numbers given, drafts and open transactions
--     enter_read, makes           a reading more; the versions that a commit makes
--     fresh n                     the account at a granted set-up on a shelf of n cards
--     after_open, after_read, after_draft, after_commit, after_end, after_close
--                                 the account after a call that was granted (after_end: after abandon, and after a conflict)
-- Transactions are numbered from 1; 0 stands for the writer of every version 0, which is no transaction.
use Rattle.std.specs.Prelude.{ℕ, suc, Bool, true, false, cond, ◌&&◌, ◌||◌, List, [], ◌∷◌, ◌++◌, ◌==◌}
use Rattle.stamps.specs.Blank.{blank}
use Rattle.stamps.specs.declared.value.Value.{Value}

pub record Reading : Type 0 where
  pub card : ℕ
  pub version : ℕ

pub record Draft : Type 0 where
  pub card : ℕ
  pub value : Value

-- No stamp, shelf or book is in it.
pub record Account : Type 0 where
  -- the listed cards are 0 .. listed - 1
  pub listed : ℕ
  -- a card's versions are 0 .. newest
  pub newest : (card : ℕ) → ℕ
  pub writer : (card version : ℕ) → ℕ
  pub value : (card version : ℕ) → Value
  -- the numbers given are 1 .. given
  pub given : ℕ
  -- what a transaction read and drafted
  pub reads : (transaction : ℕ) → List Reading
  pub drafts : (transaction : ℕ) → List Draft
  pub opened : (transaction : ℕ) → Bool
  pub committed : (transaction : ℕ) → Bool

abbrev pub has_read : List Reading → ℕ → Bool
has_read [] x = false
has_read (r ∷ rs) x = r.card == x || has_read rs x

abbrev pub drafted : List Draft → ℕ → Bool
drafted [] x = false
drafted (d ∷ ds) x = d.card == x || drafted ds x

abbrev pub draft_of : List Draft → ℕ → Value → Value
draft_of [] x v = v
draft_of (d ∷ ds) x v = cond (d.card == x) d.value (draft_of ds x v)

abbrev pub with_draft : List Draft → ℕ → Value → List Draft
with_draft [] x v = record { card = x; value = v } ∷ []
with_draft (d ∷ ds) x v = cond (d.card == x) (record { card = x; value = v } ∷ ds) (d ∷ with_draft ds x v)

-- f, with v at t
abbrev pub at_one : {X : Type 0} → (ℕ → X) → ℕ → X → ℕ → X
at_one f t v u = cond (u == t) v (f u)

-- Every listed card has version 0 alone, no number is given and nobody is open.
abbrev pub fresh : ℕ → Account
fresh n = record {
  listed = n;
  newest = λ x. 0;
  writer = λ x k. 0;
  value = λ x k. blank;
  given = 0;
  reads = λ t. [];
  drafts = λ t. [];
  opened = λ t. false;
  committed = λ t. false;
}

-- a, with these numbers given, drafts and open transactions
abbrev pub updated : Account → ℕ → (ℕ → List Draft) → (ℕ → Bool) → Account
updated a given drafts opened = record {
  listed = a.listed;
  newest = a.newest;
  writer = a.writer;
  value = a.value;
  given = given;
  reads = a.reads;
  drafts = drafts;
  opened = opened;
  committed = a.committed;
}

-- The next number becomes open.
abbrev pub after_open : Account → Account
after_open a = updated a (suc a.given) a.drafts (at_one a.opened (suc a.given) true)

-- A draft sets t's words for card x.
abbrev pub after_draft : Account → (t x : ℕ) → Value → Account
after_draft a t x v = updated a a.given (at_one a.drafts t (with_draft (a.drafts t) x v)) a.opened

-- t is no longer open, and did not commit.
abbrev pub after_end : Account → (t : ℕ) → Account
after_end a t = updated a a.given a.drafts (at_one a.opened t false)

-- Nobody is open.
abbrev pub after_close : Account → Account
after_close a = updated a a.given a.drafts (λ t. false)

-- Version k of card x enters among t's reads.
abbrev pub enter_read : Account → (t x k : ℕ) → Account
enter_read a t x k = record {
  listed = a.listed;
  newest = a.newest;
  writer = a.writer;
  value = a.value;
  given = a.given;
  reads = at_one a.reads t (a.reads t ++ (record { card = x; version = k } ∷ []));
  drafts = a.drafts;
  opened = a.opened;
  committed = a.committed;
}

-- A first read of a card enters the version answered; a card read before changes nothing.
abbrev pub after_read : Account → (t x k : ℕ) → Account
after_read a t x k = cond (has_read (a.reads t) x) a (enter_read a t x k)

-- the commit of t makes version k of card x
abbrev pub makes : Account → (t x k : ℕ) → Bool
makes a t x k = drafted (a.drafts t) x && k == suc (a.newest x)

-- t is committed and no longer open, and each card it drafted gains its next version, with those words and this writer.
abbrev pub after_commit : Account → (t : ℕ) → Account
after_commit a t = record {
  listed = a.listed;
  newest = λ x. cond (drafted (a.drafts t) x) (suc (a.newest x)) (a.newest x);
  writer = λ x k. cond (makes a t x k) t (a.writer x k);
  value = λ x k. cond (makes a t x k) (draft_of (a.drafts t) x (a.value x k)) (a.value x k);
  given = a.given;
  reads = a.reads;
  drafts = a.drafts;
  opened = at_one a.opened t false;
  committed = at_one a.committed t true;
}
