-- How the account is kept: from each call's arguments and answer alone. Assumes nothing.
--     open_account a r, read_account a t x r, draft_account a t x v r, commit_account a t r, end_account a t r
--                                 the account after an open, a read of card x by t, a draft of v for it, a commit and an abandon of t,
--                                 which answered r; after a close it is `after_close a`
--     is_conflict f               the refusal f is a conflict
use Rattle.std.specs.Prelude.{ℕ, Bool, true, false, cond, Ok, Err, Result}
use Rattle.stamps.specs.declared.value.Value.{Value}
use Rattle.isolation.specs.Account.{Account, after_open, after_read, after_draft, after_commit, after_end}
use Rattle.transactions.specs.declared.reading.Reading.{Reading as Answer}
use Rattle.transactions.specs.declared.refusal.Refusal.{Refusal}
use Rattle.transactions.specs.declared.refusal.Refusal.TheVariants as refusals

abbrev pub open_account : Account → Result ℕ Refusal → Account
open_account a (Ok n) = after_open a
open_account a (Err f) = a

-- a first read enters the version answered
abbrev pub read_account : Account → (t x : ℕ) → Result Answer Refusal → Account
read_account a t x (Ok r) = after_read a t x r.version.0
read_account a t x (Err f) = a

abbrev pub draft_account : Account → (t x : ℕ) → Value → Result (Unit {0}) Refusal → Account
draft_account a t x v (Ok u) = after_draft a t x v
draft_account a t x v (Err f) = a

abbrev pub is_conflict : Refusal → Bool
is_conflict refusals.Conflict = true
is_conflict _ = false

-- a conflict ends the transaction; any other refusal changes nothing
abbrev pub commit_account : Account → ℕ → Result (Unit {0}) Refusal → Account
commit_account a t (Ok u) = after_commit a t
commit_account a t (Err f) = cond (is_conflict f) (after_end a t) a

abbrev pub end_account : Account → ℕ → Result (Unit {0}) Refusal → Account
end_account a t (Ok u) = after_end a t
end_account a t (Err f) = a
