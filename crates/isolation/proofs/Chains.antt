-- Chains of "reads from", in any history.
use Rattle.std.proofs.Common.{ℕ, sym, subst, inl, inr}
use Rattle.isolation.specs.History.{History, Depends}
use Rattle.isolation.specs.History.Depends.{one, more}
use Rattle.isolation.specs.Lawful.{Follows, Silent}

pub depends_trans : {h : History} {t u v : ℕ} → Depends h t u → Depends h u v → Depends h t v
depends_trans (one r) e = more r e
depends_trans (more r d) e = more r (depends_trans d e)

pub follows_trans : {h : History} {t u v : ℕ} → Depends h t u → Follows h u v → Depends h t v
follows_trans {h} {t} d (inl e) = subst (Depends h t) e d
follows_trans d (inr e) = depends_trans d e

pub follows_on : {h : History} {t u v : ℕ} → Follows h t u → Follows h u v → Follows h t v
follows_on {h} {t} {u} {v} (inl e) f = subst (λ w. Follows h w v) (sym e) f
follows_on (inr d) f = inr (follows_trans d f)

-- whoever is depended on wrote something
pub silent_undepended : {h : History} {u t : ℕ} → Silent h t → Depends h u t → ⊥
silent_undepended q (one r) = q r.card r.version r.wrote
silent_undepended q (more r d) = silent_undepended q d

-- a chain of h is one of k, where each step is, among the transactions that P names
pub depends_carry : (h k : History) (P : ℕ → Type 0)
    → ((u v x m : ℕ) → P u → h.Read u x m → h.Wrote v x m → k.Read u x m × k.Wrote v x m × P v)
    → {u v : ℕ} → P u → Depends h u v → Depends k u v
depends_carry h k P step {u} p (one {u = w} r) =
    let (a, b, c) = step u w r.card r.version p r.read r.wrote in
    one (record { card = r.card; version = r.version; read = a; wrote = b })
depends_carry h k P step {u} p (more {u = w} r d) =
    let (a, b, c) = step u w r.card r.version p r.read r.wrote in
    more (record { card = r.card; version = r.version; read = a; wrote = b }) (depends_carry h k P step c d)
