-- The equations of dependence vectors have one solution on a lawful account. A version's own count is above that of every
-- version that its writer read, so the sum of a stamp's entries falls along reads.
use Rattle.std.proofs.Common.{◌≡◌, ℕ, zero, suc, ◌+◌, ◌<◌, ◌≤◌, ◌⊎◌, sym, ◌∙◌, subst, inl, inr, arith}
use Rattle.std.proofs.lemmas.Bool.{cases_eq}
use Rattle.isolation.specs.History.Depends.{one}
use Rattle.isolation.specs.Account.{Account}
use Rattle.isolation.specs.AccountHistory.{Reads, Writes, WritesCard, history}
use Rattle.isolation.specs.Vectors.{Stamps, Vectors, Alike, greatest}
use Rattle.isolation.specs.Lawful.{Lawful}
use Rattle.isolation.proofs.Counts.{followed_below}
use Rattle.isolation.proofs.Lists.{greatest_alike}
use Rattle.isolation.proofs.Reading.{written}

-- the sum of a function below n
abbrev total : (ℕ → ℕ) → ℕ → ℕ
total f zero = 0
total f (suc n) = f n + total f n

total_below : (f g : ℕ → ℕ) (n : ℕ) → ((y : ℕ) → y < n → f y ≤ g y) → total f n ≤ total g n
total_below f g zero le = omega arith
total_below f g (suc n) le = omega (arith, le n (omega arith), total_below f g n (λ y lt. le y (omega arith)))

total_less : (f g : ℕ → ℕ) (n x : ℕ) → ((y : ℕ) → y < n → f y ≤ g y) → x < n → f x < g x → total f n < total g n
total_less f g zero x le lx lt = absurd (omega arith)
total_less f g (suc n) x le lx lt = go (cases_eq x n) (λ q. total_less f g n x (λ y ly. le y (omega arith)) q lt)
  where
    below : total f n ≤ total g n
    below = total_below f g n (λ y ly. le y (omega arith))

    go : (x ≡ n) ⊎ (x ≡ n → ⊥) → (x < n → total f n < total g n) → total f (suc n) < total g (suc n)
    go (inl e) more = let h : f n < g n = subst (λ z. f z < g z) e lt in omega (arith, below)
    go (inr ne) more = omega (arith, more (omega arith), le n (omega arith))

module _ (a : Account) (s : Stamps) (l : Lawful a s) where
  -- the sum of the entries falls from a version to one that its writer read
  read_falls : (u x k z j : ℕ) → Writes a u x (suc k) → Reads a u z j → total (s z j) a.listed < total (s x (suc k)) a.listed
  read_falls u x k z j w r =
      total_less (s z j) (s x (suc k)) a.listed x (λ y ly. below j r y ly) (l.meant.wrote_listed u x (suc k) w)
      (omega (arith, l.fitting u z j x k r (l.meant.chain u x k w), l.meant.own u x (suc k) w))
    where
      below : (j : ℕ) → Reads a u z j → (y : ℕ) → y < a.listed → s z j y ≤ s x (suc k) y
      below zero r = λ y ly. omega (arith, l.meant.zeros z y (l.meant.read_listed u z zero r) ly)
      below (suc j) r = λ y ly.
          let (v, i) = l.meant.exists u z j r in
          followed_below (history a) a.listed s l.meant u v x (suc k) z (suc j) y w i
          (inr (one (record { card = z; version = suc j; read = r; wrote = i }))) ly

  module _ (s' : Stamps) (q : Vectors a s') where
    alike_below : (fuel x k y : ℕ) → total (s x k) a.listed < fuel → x < a.listed → k ≤ a.newest x → y < a.listed → s' x k y ≡ s x k y
    alike_below zero x k y lt lx le ly = absurd (omega arith)
    alike_below (suc fuel) x zero y lt lx le ly = q.first x y lx ly ∙ sym (l.vectors.first x y lx ly)
    alike_below (suc fuel) x (suc k) y lt lx le ly =
        go (greatest_alike s s' (a.reads (a.writer x (suc k))) y (λ z j r.
        alike_below fuel z j y (omega (arith, read_falls (a.writer x (suc k)) x k z j wrote r))
        (l.meant.read_listed (a.writer x (suc k)) z j r) (l.kept.read_exists (a.writer x (suc k)) z j r) ly))
        (cases_eq (s' x (suc k) y) (s x (suc k) y))
      where
        wrote : Writes a (a.writer x (suc k)) x (suc k)
        wrote = written a x (suc k) (omega arith) le

        go : greatest s' (a.reads (a.writer x (suc k))) y ≡ greatest s (a.reads (a.writer x (suc k))) y
            → (s' x (suc k) y ≡ s x (suc k) y) ⊎ (s' x (suc k) y ≡ s x (suc k) y → ⊥) → s' x (suc k) y ≡ s x (suc k) y
        go g (inl e) = e
        go g (inr ne) = absurd (ne (other (λ c. ne (here c))))
          where
            here : WritesCard a (a.writer x (suc k)) y → s' x (suc k) y ≡ s x (suc k) y
            here c = omega (arith, q.writing (a.writer x (suc k)) x (suc k) y wrote ly c, l.vectors.writing (a.writer x (suc k)) x (suc k) y wrote ly c)

            other : (WritesCard a (a.writer x (suc k)) y → ⊥) → s' x (suc k) y ≡ s x (suc k) y
            other c = omega (arith, q.reading (a.writer x (suc k)) x (suc k) y wrote ly c, l.vectors.reading (a.writer x (suc k)) x (suc k) y wrote ly c)

    pub vectors_alike : Alike a s s'
    vectors_alike x k y lx le ly = alike_below (suc (total (s x k) a.listed)) x k y (omega arith) lx le ly
