-- The journal and the account, over each step that writes no line; and the rules of a file.
use Rattle.std.proofs.Common.{◌≡◌, ℕ, ◌≤◌, List, [], sym, subst, inl, inr, arith}
use Rattle.records.specs.declared.line.Line.{Line}
use Rattle.rules.specs.Lines.{Ends}
use Rattle.verdicts.specs.Verdicts.{ReadAt, Commits}
use Rattle.isolation.specs.Account.{Account, fresh}
use Rattle.isolation.specs.AccountHistory.{Has, Writes}
use Rattle.transactions.specs.Journaled.{Writer, Named, Journaled}
use Rattle.transactions.specs.Journal.{FileRules}
use Rattle.transactions.proofs.Places.{none_some}
use Rattle.transactions.proofs.Seen.{SameShelf}
use Rattle.transactions.proofs.Obeying.{no_lines}

-- nothing is written at set-up
pub journal_begins : (n : ℕ) → Journaled (fresh n) []
journal_begins n = record {
  by_writer = λ i l e. absurd (none_some e);
  done = λ t w. absurd (none t w.0 w.1.0 w.1.1);
  writ = λ j t x w. absurd (none_some w.stands.at);
  made = λ t x k w. absurd (none t x k w);
  once = λ i j t x w v. absurd (none_some w.stands.at);
  order = λ i j t u x k m w v p q lt. absurd (none_some w.stands.at);
  read = λ i t x w r. absurd (none_some r.stands.at);
  reads = λ t x k w r. absurd r;
  lines = no_lines;
  committed = λ i t x w r. absurd (none_some r.stands.at);
}
  where
    none : (t x k : ℕ) → Writes (fresh n) t x k → ⊥
    none t x k w = omega (arith, w.0, w.1)

-- a step that leaves the versions, and what their writers read
module _ (a c : Account) (ls : List Line) (e : SameShelf a c) (same : (t : ℕ) → Writer a t → c.reads t ≡ a.reads t) (j : Journaled a ls) where
  to : (t x k : ℕ) → Writes a t x k → Writes c t x k
  to t x k (p, le, q) =
      (p, subst (λ (f : ℕ → ℕ). k ≤ f x) (sym e.newest) le, subst (λ (f : ℕ → ℕ → ℕ). f x k ≡ t) (sym e.writer) q)

  from : (t x k : ℕ) → Writes c t x k → Writes a t x k
  from t x k (p, le, q) = (p, subst (λ (f : ℕ → ℕ). k ≤ f x) e.newest le, subst (λ (f : ℕ → ℕ → ℕ). f x k ≡ t) e.writer q)

  named_to : (x k w : ℕ) → Named a x k w → Named c x k w
  named_to x k w (inl p) = inl p
  named_to x k w (inr p) = inr (to w x k p)

  back : (t : ℕ) → Writer c t → Writer a t
  back t (x, (k, w)) = (x, (k, from t x k w))

  pub journal_stays : Journaled c ls
  journal_stays = record {
    by_writer = λ i l p. let (x, (k, w)) = j.by_writer i l p in (x, (k, to l.transaction.0 x k w));
    done = λ t w. j.done t (back t w);
    writ = λ i t x w. let (k, p) = j.writ i t x w in (k, to t x k p);
    made = λ t x k w. j.made t x k (from t x k w);
    once = j.once;
    order = λ i i' t u x k n p q v w lt. j.order i i' t u x k n p q (from t x k v) (from u x n w) lt;
    read = λ i t x w r.
        let (k, p, q) = j.read i t x w r in
        (k, subst (λ rs. Has rs x k) (sym (same t (by i t x w r))) p, named_to x k w q);
    reads = λ t x k w r.
        let (i, v, p, q) = j.reads t x k (back t w) (subst (λ rs. Has rs x k) (same t (back t w)) r) in
        (i, v, p, named_to x k v q);
    lines = j.lines;
    committed = j.committed;
  }
    where
      by : (i t x w : ℕ) → ReadAt ls i t x w → Writer a t
      by i t x w r = subst (Writer a) r.stands.by (j.by_writer i r.stands.line r.stands.at)

-- the rules of a file: every transaction of the journal has its DONE
pub journal_rules : (a : Account) (ls : List Line) → Journaled a ls → FileRules ls
journal_rules a ls j = record { lines = j.lines; ended = λ i t (k, s). ended t (j.done t (subst (Writer a) s.by (j.by_writer i s.line s.at))) }
  where
    ended : (t : ℕ) → Commits ls t → Ends ls t
    ended t (i, s) = (i, inl s)
