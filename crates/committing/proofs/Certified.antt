-- The count of drafts that are not up to date. Assumes nothing.
use Rattle.std.proofs.Common.{◌≡◌, ℕ, ◌+◌, ◌<◌, ◌≤◌, Bool, true, false, cond, not, ◌||◌, eqb, ltb, List, map, length, get_or, drop, sym, refl, ap, ◌∙◌, arith}
use Rattle.std.proofs.lemmas.List.{at_drop_more, at_drop_all}
use Rattle.std.proofs.lemmas.Bool.{lt-ltb, or_right}
use Rattle.std.proofs.lemmas.Bool.Decides.{nat_tests}
use Rattle.shelf.specs.Meaning.{Meaning, newest}
use Rattle.isolation.specs.Account.{Reading, Draft}
use Rattle.transactions.specs.Choosing.{version_read}
use Rattle.transactions.specs.Committing.{is_version, outdated}
use Rattle.entries.specs.declared.entries.DraftEntry.{DraftEntry}
use Rattle.entries.specs.Contents.{drafting}

stale_more : (all : Bool) (stale stale' : ℕ) (t rest : Bool) → all ≡ (ltb 0 stale || (not t || rest)) → stale' ≡ stale + cond {A = ℕ} t 0 1 → all ≡ (ltb 0 stale' || rest)
stale_more all stale stale' true rest e n = e ∙ ap (λ k. ltb 0 k || rest) (omega arith)
stale_more all stale stale' false rest e n =
    e ∙ or_right (ltb 0 stale) true refl ∙ sym (ap (λ b. b || rest) (lt-ltb 0 stale' (omega arith)))

-- the count of drafts that are not up to date
pub outdated_more : (m : Meaning) (rs : List Reading) (es : List DraftEntry) (i : ℕ) (d : DraftEntry) (stale stale' : ℕ) (t : Bool) → i < length es →
    t ≡ is_version (version_read rs (get_or es i d).card.0) (newest m (get_or es i d).card.0) → stale' ≡ stale + cond {A = ℕ} t 0 1 →
    outdated m rs (map drafting es) ≡ (ltb 0 stale || outdated m rs (map drafting (drop i es))) →
    outdated m rs (map drafting es) ≡ (ltb 0 stale' || outdated m rs (map drafting (drop (i + 1) es)))
outdated_more m rs es i d stale stale' t h test n inv =
    let step = at_drop_more (λ l. outdated m rs (map drafting l)) es i d h in
    stale_more (outdated m rs (map drafting es)) stale stale' t (outdated m rs (map drafting (drop (i + 1) es)))
    (inv ∙ ap (λ b. ltb 0 stale || b) (step ∙ ap (λ b. not b || outdated m rs (map drafting (drop (i + 1) es))) (sym test))) n

pub outdated_end : (m : Meaning) (rs : List Reading) (es : List DraftEntry) (ds : List Draft) (i stale : ℕ) → length es ≤ i → map drafting es ≡ ds →
    outdated m rs (map drafting es) ≡ (ltb 0 stale || outdated m rs (map drafting (drop i es))) → not (eqb stale 0) ≡ outdated m rs ds
outdated_end m rs es ds i stale h same inv =
    let none : not (eqb stale 0) ≡ (ltb 0 stale || false) = grind (arith, nat_tests) in
    none ∙ ap (λ b. ltb 0 stale || b) (sym (at_drop_all (λ l. outdated m rs (map drafting l)) es i h)) ∙ sym inv ∙ ap (outdated m rs) same
