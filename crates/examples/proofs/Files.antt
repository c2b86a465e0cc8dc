-- A file's lines as finite lists.
--     Row, rows ls                a line with its place; all of them
--     is? k l                     settles whether two kinds of lines are one
--     by, on, named               a line's transaction, card and writer
--     written, read_of, ended     what was written, what was read, and who committed, as lists
--     told                        these lists tell the file's history
use Rattle.std.proofs.Common.{◌≡◌, ℕ, zero, suc, ◌⊎◌, List, [], ◌∷◌, ◌++◌, Some, sym, refl, ap, ◌∙◌, subst, inl, inr, arith}
use Rattle.std.specs.List.{slice_get}
use Rattle.records.specs.declared.kind.Kind.{Kind}
use Rattle.records.specs.declared.kind.Kind.TheVariants.{Read, Writ, Done, Gone}
use Rattle.records.specs.declared.line.Line.{Line}
use Rattle.verdicts.specs.Verdicts.{Stands, ReadAt, Reads, Writes, Commits, history_of}
use Rattle.examples.proofs.Finite.{In, eq?, like?, both?, in_left, in_right, in_either, collect, collect_in, in_collect, pairs, pairs_in, in_pairs}
use Rattle.examples.proofs.Dependence.{Fact, fact, Listed}

pub record Row : Type 0 where
  pub place : ℕ
  pub line : Line

abbrev pub row : ℕ → Line → Row
row i l = record { place = i; line = l }

-- the rows of the lines behind the first
abbrev pub later : List Row → List Row
later [] = []
later (r ∷ rs) = row (suc r.place) r.line ∷ later rs

abbrev pub rows : List Line → List Row
rows [] = []
rows (l ∷ ls) = row 0 l ∷ later (rows ls)

later_in : (rs : List Row) (i : ℕ) (l : Line) → In (row i l) rs → In (row (suc i) l) (later rs)
later_in [] i l h = absurd h
later_in (r ∷ rs) i l (inl e) = inl (ap (λ q. row (suc q.place) q.line) e)
later_in (r ∷ rs) i l (inr h) = inr (later_in rs i l h)

rows_in : (ls : List Line) (i : ℕ) (l : Line) → slice_get ls i ≡ Some l → In (row i l) (rows ls)
rows_in [] i l e = let z : ◌≡◌ {A = ℕ} 0 1 = cc in absurd (omega arith)
rows_in (m ∷ ls) zero l e = let same : m ≡ l = cc in inl (ap (row 0) same)
rows_in (m ∷ ls) (suc i) l e = inr (later_in (rows ls) i l (rows_in ls i l e))

-- what holds of every row with the next place holds of every later row
in_later : (P : Row → Type 0) (rs : List Row) → ((r : Row) → In r rs → P (row (suc r.place) r.line))
    → (r : Row) → In r (later rs) → P r
in_later P [] f r h = absurd h
in_later P (q ∷ rs) f r (inl e) = subst P e (f q (inl refl))
in_later P (q ∷ rs) f r (inr h) = in_later P rs (λ s k. f s (inr k)) r h

pub in_rows : (ls : List Line) (r : Row) → In r (rows ls) → slice_get ls r.place ≡ Some r.line
in_rows [] r h = absurd h
in_rows (l ∷ ls) r (inl e) = subst (λ q. slice_get (l ∷ ls) q.place ≡ Some q.line) e refl
in_rows (l ∷ ls) r (inr h) = in_later (λ q. slice_get (l ∷ ls) q.place ≡ Some q.line) (rows ls) (in_rows ls) r h

-- a kind's place among the four, and back
abbrev pub rank : Kind → ℕ
rank Read = 0
rank Writ = 1
rank Done = 2
rank Gone = 3

abbrev pub ranked : ℕ → Kind
ranked zero = Read
ranked (suc zero) = Writ
ranked (suc (suc zero)) = Done
ranked (suc (suc (suc n))) = Gone

pub ranked_rank : (k : Kind) → ranked (rank k) ≡ k
ranked_rank Read = refl
ranked_rank Writ = refl
ranked_rank Done = refl
ranked_rank Gone = refl

abbrev pub is? : (k l : Kind) → Dec (k ≡ l)
is? k l = like? (λ e. sym (ranked_rank k) ∙ ap ranked e ∙ ranked_rank l) (ap rank) (eq? (rank k) (rank l))

abbrev pub by : Row → ℕ
by r = r.line.transaction.0

abbrev pub on : Row → ℕ
on r = r.line.card.0

abbrev pub named : Row → ℕ
named r = r.line.writer.0

abbrev pub KindIs : Kind → Row → Type 0
KindIs k r = r.line.kind ≡ k

abbrev pub kind_is? : (k : Kind) (r : Row) → Dec (KindIs k r)
kind_is? k r = is? r.line.kind k

abbrev pub write_of : Row → Fact
write_of r = fact (by r) (on r) (suc r.place)

abbrev pub written : List Line → List Fact
written ls = collect (KindIs Writ) (kind_is? Writ) write_of (rows ls)

-- a READ of version 0
abbrev pub First : Row → Type 0
First r = KindIs Read r × (named r ≡ 0)

abbrev pub first? : (r : Row) → Dec (First r)
first? r = both? (kind_is? Read r) (eq? (named r) 0)

-- a READ with the write that it names
abbrev pub Names : Row × Fact → Type 0
Names p = KindIs Read p.0 × ((named p.0 ≡ p.1.who) × (on p.0 ≡ p.1.card))

abbrev pub names? : (p : Row × Fact) → Dec (Names p)
names? p = both? (kind_is? Read p.0) (both? (eq? (named p.0) p.1.who) (eq? (on p.0) p.1.card))

abbrev pub first_of : Row → Fact
first_of r = fact (by r) (on r) 0

abbrev pub later_of : Row × Fact → Fact
later_of p = fact (by p.0) (on p.0) p.1.version

abbrev pub first_reads : List Line → List Fact
first_reads ls = collect First first? first_of (rows ls)

abbrev pub later_reads : List Line → List Fact
later_reads ls = collect Names names? later_of (pairs (rows ls) (written ls))

abbrev pub read_of : List Line → List Fact
read_of ls = first_reads ls ++ later_reads ls

abbrev pub ended : List Line → List ℕ
ended ls = collect (KindIs Done) (kind_is? Done) by (rows ls)

module _ (ls : List Line) where
  -- a row of the file, as a line that stands at its place
  abbrev pub standing : (k : Kind) (r : Row) → In r (rows ls) → KindIs k r → Stands ls r.place k (by r)
  standing k r i e = record { line = r.line; at = in_rows ls r i; kind = e; by = refl }

  pub stood : {i t : ℕ} {k : Kind} (s : Stands ls i k t) → In (row i s.line) (rows ls)
  stood {i} s = rows_in ls i s.line s.at

  in_written : (f : Fact) → In f (written ls) → Writes ls f.who f.card f.version
  in_written f h =
      let (r, i, k, e) = in_collect (KindIs Writ) (kind_is? Writ) write_of (rows ls) f h in
      subst (λ f. Writes ls f.who f.card f.version) e
      (r.place, refl, record { stands = standing Writ r i k; card = refl })

  written_in : (t x k : ℕ) → Writes ls t x k → In (fact t x k) (written ls)
  written_in t x k (j, e, w) =
      let s = w.stands in
      let r = row j s.line in
      let q : fact (by r) (on r) (suc j) ≡ fact t x k = cc (s.by, w.card, e) in
      subst (λ f. In f (written ls)) q
      (collect_in (KindIs Writ) (kind_is? Writ) write_of (rows ls) r (stood s) s.kind)

  pub read_at : (r : Row) → In r (rows ls) → KindIs Read r → ReadAt ls r.place (by r) (on r) (named r)
  read_at r i k = record { stands = standing Read r i k; card = refl; writer = refl }

  in_read_of : (f : Fact) → In f (read_of ls) → Reads ls f.who f.card f.version
  in_read_of f h = go (in_either (first_reads ls) (later_reads ls) f h)
    where
      go : In f (first_reads ls) ⊎ In f (later_reads ls) → Reads ls f.who f.card f.version
      go (inl h) =
          let (r, i, (k, z), e) = in_collect First first? first_of (rows ls) f h in
          subst (λ f. Reads ls f.who f.card f.version) e (r.place, named r, read_at r i k, inl (z, refl))
      go (inr h) =
          let (p, i, (k, (w, x)), e) = in_collect Names names? later_of (pairs (rows ls) (written ls)) f h in
          let (i, j) = in_pairs (rows ls) (written ls) p i in
          subst (λ f. Reads ls f.who f.card f.version) e (
            p.0.place,
            named p.0,
            read_at p.0 i k,
            inr (subst (λ x. Writes ls (named p.0) x p.1.version) (sym x)
                (subst (λ w. Writes ls w p.1.card p.1.version) (sym w) (in_written p.1 j))),
          )

  read_of_in : (t x k : ℕ) → Reads ls t x k → In (fact t x k) (read_of ls)
  read_of_in t x k (i, w, a, inl (z, e)) =
      let s = a.stands in
      let r = row i s.line in
      let q : fact (by r) (on r) 0 ≡ fact t x k = cc (s.by, a.card, e) in
      in_left (first_reads ls) (later_reads ls) (fact t x k)
      (subst (λ f. In f (first_reads ls)) q
      (collect_in First first? first_of (rows ls) r (stood s) (s.kind, a.writer ∙ z)))
  read_of_in t x k (i, w, a, inr v) =
      let s = a.stands in
      let r = row i s.line in
      let q : fact (by r) (on r) k ≡ fact t x k = cc (s.by, a.card) in
      in_right (first_reads ls) (later_reads ls) (fact t x k)
      (subst (λ f. In f (later_reads ls)) q
      (collect_in Names names? later_of (pairs (rows ls) (written ls)) (r, fact w x k)
      (pairs_in (rows ls) (written ls) r (fact w x k) (stood s) (written_in w x k v)) (s.kind, (a.writer, a.card))))

  in_ended : (t : ℕ) → In t (ended ls) → Commits ls t
  in_ended t h =
      let (r, i, k, e) = in_collect (KindIs Done) (kind_is? Done) by (rows ls) t h in
      subst (λ t. Commits ls t) e (r.place, standing Done r i k)

  ended_in : (t : ℕ) → Commits ls t → In t (ended ls)
  ended_in t (i, s) = subst (λ t. In t (ended ls)) s.by (collect_in (KindIs Done) (kind_is? Done) by (rows ls) (row i s.line) (stood s) s.kind)

  pub told : Listed (history_of ls) (read_of ls) (written ls) (ended ls)
  told =
      record {
        read_in = read_of_in;
        in_read = in_read_of;
        wrote_in = written_in;
        in_wrote = in_written;
        done_in = ended_in;
        in_done = in_ended;
      }
