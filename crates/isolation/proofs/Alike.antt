-- Stamps that agree on the versions there are: what holds with one holds with the other.
use Rattle.std.proofs.Common.{◌≡◌, ℕ, ◌<◌, ◌≤◌, ◌∙◌, arith}
use Rattle.isolation.specs.Account.{Account}
use Rattle.isolation.specs.AccountHistory.{Reads, Writes}
use Rattle.isolation.specs.Vectors.{Stamps, Alike, greatest}
use Rattle.isolation.specs.Lawful.{Lawful}
use Rattle.isolation.proofs.Lists.{greatest_alike}

module _ (a : Account) (s : Stamps) (l : Lawful a s) (s' : Stamps) (e : Alike a s s') where
  -- the stamps of versions written, and of versions read
  pub written_alike : (u x k y : ℕ) → Writes a u x k → y < a.listed → s' x k y ≡ s x k y
  written_alike u x k y w ly = e x k y (l.meant.wrote_listed u x k w) w.1 ly

  pub read_alike : (u x k y : ℕ) → Reads a u x k → y < a.listed → s' x k y ≡ s x k y
  read_alike u x k y r ly = e x k y (l.meant.read_listed u x k r) (l.kept.read_exists u x k r) ly

  pub reads_alike : (u y : ℕ) → y < a.listed → greatest s' (a.reads u) y ≡ greatest s (a.reads u) y
  reads_alike u y ly = greatest_alike s s' (a.reads u) y (λ x k r. read_alike u x k y r ly)

  pub fitting_alike : (u x m y k : ℕ) → Reads a u x m → Reads a u y k → s' x m y ≤ k
  fitting_alike u x m y k r q = omega (arith, l.fitting u x m y k r q, read_alike u x m y r (l.meant.read_listed u y k q))

  pub zeros_alike : (x y : ℕ) → x < a.listed → y < a.listed → s' x 0 y ≡ 0
  zeros_alike x y lx ly = e x 0 y lx (omega arith) ly ∙ l.meant.zeros x y lx ly

  pub lawful_alike : Lawful a s'
  lawful_alike = record {
    meant = record {
      read_listed = l.meant.read_listed;
      wrote_listed = l.meant.wrote_listed;
      wrote_above = l.meant.wrote_above;
      exists = l.meant.exists;
      sole = l.meant.sole;
      chain = l.meant.chain;
      zeros = zeros_alike;
      own = λ u x k w. written_alike u x k x w (l.meant.wrote_listed u x k w) ∙ l.meant.own u x k w;
      reached = λ u x n y k w ly p le. l.meant.reached u x n y k w ly p (omega (arith, written_alike u x n y w ly));
      reaches = λ u v x n y k w i f.
          omega (arith, l.meant.reaches u v x n y k w i f, written_alike u x n y w (l.meant.wrote_listed v y k i));
    };
    fitting = fitting_alike;
    kept = l.kept;
    vectors = record {
      first = zeros_alike;
      writing = λ t x k y w ly c. omega (arith, l.vectors.writing t x k y w ly c, written_alike t x k y w ly, reads_alike t y ly);
      reading = λ t x k y w ly c. omega (arith, l.vectors.reading t x k y w ly c, written_alike t x k y w ly, reads_alike t y ly);
    };
  }
