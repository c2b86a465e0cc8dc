-- What the judge keeps of a file's lines. Assumes nothing.
--     blank, at es i              an entry for no line; entry i
--     is_done k                   k is the kind of a DONE
--     wrote e x t                 e is a WRIT of card x by transaction t
--     owner_in es t n             the owner of transaction t as the first n entries tell it; the number of entries, where they don't
--     version_in es x t n         the version of card x that transaction t wrote in the first n entries; 0, where it wrote none
--     version_of k es l           the version that line l, of kind k, reads or writes behind the entries es; 0 at an end
--     entry_of es l               the entry of line l behind the entries es
--     is_step e                   e reads a version that a transaction wrote
--     newer w r                   w writes a newer version of the card than r reads
--     rivals a b                  two WRITs of one card by two transactions
--     Sound es                    every owner stands at or before its entry, every version read was written before, and a WRIT's version is one more than its place
use Rattle.std.specs.Prelude.{◌≡◌, ℕ, zero, suc, ◌<◌, ◌≤◌, Bool, true, false, cond, not, ◌&&◌, List, length, ◌==◌, nat_lt, slice_index_or}
use Rattle.records.specs.declared.kind.Kind.{Kind}
use Rattle.records.specs.declared.kind.Kind.TheVariants.{Read, Writ, Done, Gone}
use Rattle.records.specs.declared.line.Line.{Line}
use Rattle.rules.specs.Rules.{is_read, is_writ}
use Rattle.digest.specs.declared.entry.Entry.{Entry}

abbrev pub blank : Entry
blank = record { kind = Read; transaction = record { 0 = 0 }; card = record { 0 = 0 }; owner = 0; version = 0 }

abbrev pub at : List Entry → ℕ → Entry
at es i = slice_index_or es i blank

abbrev pub is_done : Kind → Bool
is_done Read = false
is_done Writ = false
is_done Done = true
is_done Gone = false

abbrev pub wrote : Entry → ℕ → ℕ → Bool
wrote e x t = is_writ e.kind && e.transaction.0 == t && e.card.0 == x

unfoldable pub owner_in : List Entry → ℕ → ℕ → ℕ
owner_in es t zero = length es
owner_in es t (suc n) = cond ((at es n).transaction.0 == t) (at es n).owner (owner_in es t n)

unfoldable pub version_in : List Entry → ℕ → ℕ → ℕ → ℕ
version_in es x t zero = 0
version_in es x t (suc n) = cond (wrote (at es n) x t) (suc n) (version_in es x t n)

-- a READ from nobody is of version 0
abbrev pub version_of : Kind → List Entry → Line → ℕ
version_of Read es l = cond (l.writer.0 == 0) 0 (version_in es l.card.0 l.writer.0 (length es))
version_of Writ es l = suc (length es)
version_of Done es l = 0
version_of Gone es l = 0

abbrev pub entry_of : List Entry → Line → Entry
entry_of es l = record {
  kind = l.kind;
  transaction = l.transaction;
  card = l.card;
  owner = owner_in es l.transaction.0 (length es);
  version = version_of l.kind es l;
}

abbrev pub is_step : Entry → Bool
is_step e = is_read e.kind && nat_lt 0 e.version

abbrev pub newer : Entry → Entry → Bool
newer w r = is_writ w.kind && w.card.0 == r.card.0 && nat_lt r.version w.version

abbrev pub rivals : Entry → Entry → Bool
rivals a b = is_writ a.kind && is_writ b.kind && a.card.0 == b.card.0 && not (a.owner == b.owner)

pub record Sound (es : List Entry) : Type 0 where
  pub owner : (i : ℕ) → i < length es → (at es i).owner ≤ i
  pub itself : (i : ℕ) → i < length es → (at es (at es i).owner).owner ≡ (at es i).owner
  pub version : (i : ℕ) → i < length es → is_read (at es i).kind ≡ true → (at es i).version ≤ i
  pub writ : (i : ℕ) → i < length es → is_writ (at es i).kind ≡ true → (at es i).version ≡ suc i
