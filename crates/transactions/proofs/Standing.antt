-- Where a line stands in lists joined.
use Rattle.std.proofs.Common.{◌≡◌, ℕ, ◌+◌, ◌⊎◌, List, ◌++◌, length, Some, ◌∙◌, inl, inr}
use Rattle.std.specs.List.{slice_get}
use Rattle.records.specs.declared.kind.Kind.{Kind}
use Rattle.records.specs.declared.line.Line.{Line}
use Rattle.verdicts.specs.Verdicts.{Stands, WritAt, ReadAt}
use Rattle.transactions.proofs.Places.{nth_cases, nth_stays, nth_behind}

module _ (xs ys : List Line) where
  abbrev pub stands_front : (i : ℕ) (k : Kind) (t : ℕ) → Stands xs i k t → Stands (xs ++ ys) i k t
  stands_front i k t s = record { line = s.line; at = nth_stays xs ys i s.line s.at; kind = s.kind; by = s.by }

  abbrev pub stands_behind : (i : ℕ) (k : Kind) (t : ℕ) → Stands ys i k t → Stands (xs ++ ys) (length xs + i) k t
  stands_behind i k t s = record { line = s.line; at = nth_behind xs ys i ∙ s.at; kind = s.kind; by = s.by }

  pub writ_front : (i t x : ℕ) → WritAt xs i t x → WritAt (xs ++ ys) i t x
  writ_front i t x w = record { stands = stands_front i _ t w.stands; card = w.card }

  pub writ_behind : (i t x : ℕ) → WritAt ys i t x → WritAt (xs ++ ys) (length xs + i) t x
  writ_behind i t x w = record { stands = stands_behind i _ t w.stands; card = w.card }

  pub read_front : (i t x w : ℕ) → ReadAt xs i t x w → ReadAt (xs ++ ys) i t x w
  read_front i t x w r = record { stands = stands_front i _ t r.stands; card = r.card; writer = r.writer }

  pub read_behind : (i t x w : ℕ) → ReadAt ys i t x w → ReadAt (xs ++ ys) (length xs + i) t x w
  read_behind i t x w r = record { stands = stands_behind i _ t r.stands; card = r.card; writer = r.writer }

  pub writ_cases : (i t x : ℕ) → WritAt (xs ++ ys) i t x → WritAt xs i t x ⊎ ((j : ℕ) × (i ≡ length xs + j) × WritAt ys j t x)
  writ_cases i t x w = go (nth_cases xs ys i w.stands.line w.stands.at)
    where
      at : (zs : List Line) (j : ℕ) → slice_get zs j ≡ Some w.stands.line → WritAt zs j t x
      at zs j e = record {
        stands = record { line = w.stands.line; at = e; kind = w.stands.kind; by = w.stands.by };
        card = w.card;
      }

      go : (slice_get xs i ≡ Some w.stands.line) ⊎ ((j : ℕ) × (i ≡ length xs + j) × (slice_get ys j ≡ Some w.stands.line))
          → WritAt xs i t x ⊎ ((j : ℕ) × (i ≡ length xs + j) × WritAt ys j t x)
      go (inl e) = inl (at xs i e)
      go (inr (j, q, e)) = inr (j, q, at ys j e)

  pub read_cases : (i t x w : ℕ) → ReadAt (xs ++ ys) i t x w → ReadAt xs i t x w ⊎ ((j : ℕ) × (i ≡ length xs + j) × ReadAt ys j t x w)
  read_cases i t x w r = go (nth_cases xs ys i r.stands.line r.stands.at)
    where
      at : (zs : List Line) (j : ℕ) → slice_get zs j ≡ Some r.stands.line → ReadAt zs j t x w
      at zs j e = record {
        stands = record { line = r.stands.line; at = e; kind = r.stands.kind; by = r.stands.by };
        card = r.card;
        writer = r.writer;
      }

      go : (slice_get xs i ≡ Some r.stands.line) ⊎ ((j : ℕ) × (i ≡ length xs + j) × (slice_get ys j ≡ Some r.stands.line))
          → ReadAt xs i t x w ⊎ ((j : ℕ) × (i ≡ length xs + j) × ReadAt ys j t x w)
      go (inl e) = inl (at xs i e)
      go (inr (j, q, e)) = inr (j, q, at ys j e)
