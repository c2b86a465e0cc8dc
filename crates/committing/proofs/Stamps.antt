-- The stamp of a commit. Assumes nothing.
use Rattle.std.proofs.Common.{◌≡◌, ℕ, suc, ◌+◌, ◌<◌, ◌≤◌, min, max, true, false, cond, ◌&&◌, ◌||◌, eqb, ltb, List, [], ◌∷◌, map, length, get_or, drop, sym, refl, ap, ◌∙◌, ⊎_elim, arith}
use mathlib.Core.Path.{fun_ext}
use Rattle.std.proofs.lemmas.List.{at_drop_more, at_drop_all}
use Rattle.std.proofs.lemmas.Bool.{cond-true, cond-false, eq-eqb, ne_eqb, and_from, and_left, lt-ltb, or_left, cases_eq}
use Rattle.stamps.specs.Counts.{room, most, joined, bumped}
use Rattle.shelf.specs.Meaning.{Meaning}
use Rattle.isolation.specs.Account.{Draft, drafted}
use Rattle.isolation.specs.Vectors.{greatest}
use Rattle.transactions.specs.Choosing.{stamps_of}
use Rattle.entries.specs.declared.entries.ReadEntry.{ReadEntry}
use Rattle.entries.specs.declared.entries.DraftEntry.{DraftEntry}
use Rattle.entries.specs.Numbers.{apart}
use Rattle.entries.specs.Contents.{reading, drafting, draft_cards}
use Rattle.committing.specs.Stamping.{bump_all}
use Rattle.entries.proofs.Apart.{apart_parts}
use Rattle.entries.proofs.Drafts.{drafted_member}

module _ (m : Meaning) (es : List ReadEntry) (i : ℕ) (d : ReadEntry) (h : i < length es) where
  pub join_more : (f g : ℕ → ℕ) → g ≡ joined f (stamps_of m (get_or es i d).card.0 (get_or es i d).version.0) →
      ((y : ℕ) → max (f y) (greatest (stamps_of m) (map reading (drop i es)) y) ≡ greatest (stamps_of m) (map reading es) y) →
      (y : ℕ) → max (g y) (greatest (stamps_of m) (map reading (drop (i + 1) es)) y) ≡ greatest (stamps_of m) (map reading es) y
  join_more f g e inv y =
      let step = at_drop_more (λ l. greatest (stamps_of m) (map reading l) y) es i d h in
      omega (arith, step, ap (λ q. q y) e, inv y)

pub join_end : (m : Meaning) (es : List ReadEntry) (i : ℕ) (f : ℕ → ℕ) → length es ≤ i →
    ((y : ℕ) → max (f y) (greatest (stamps_of m) (map reading (drop i es)) y) ≡ greatest (stamps_of m) (map reading es) y) →
    f ≡ greatest (stamps_of m) (map reading es)
join_end m es i f h inv = fun_ext (λ y. omega (arith, inv y, at_drop_all (λ l. greatest (stamps_of m) (map reading l) y) es i h))

pub bump_more : (es : List DraftEntry) (i : ℕ) (d : DraftEntry) (f g total : ℕ → ℕ) → i < length es → g ≡ bumped f (get_or es i d).card.0 →
    bump_all f (map drafting (drop i es)) ≡ total → bump_all g (map drafting (drop (i + 1) es)) ≡ total
bump_more es i d f g total h e inv =
    ap (λ q. bump_all q (map drafting (drop (i + 1) es))) e ∙ sym (at_drop_more (λ l. bump_all f (map drafting l)) es i d h) ∙ inv

pub bump_end : (es : List DraftEntry) (i : ℕ) (f total : ℕ → ℕ) → length es ≤ i → bump_all f (map drafting (drop i es)) ≡ total → f ≡ total
bump_end es i f total h inv = sym (at_drop_all (λ l. bump_all f (map drafting l)) es i h) ∙ inv

-- no card is drafted twice, so each count gets one more at the most
pub bumped_once : (n : ℕ) (ds : List Draft) (f : ℕ → ℕ) (y : ℕ) → n ≤ room → apart n (draft_cards ds) ≡ true →
    bump_all f ds y ≡ cond (drafted ds y) (min (suc (f y)) most) (f y)
bumped_once n [] f y le ok = refl
bumped_once n (d ∷ ds) f y le ok =
    let p = apart_parts n d.card (draft_cards ds) ok in
    let rest = bumped_once n ds (bumped f d.card) y le p.2 in
    ⊎_elim
    (λ (e : d.card ≡ y).
    let out : drafted ds y ≡ false = ap (drafted ds) (sym e) ∙ drafted_member ds d.card ∙ p.1 in
    let hit : (eqb y d.card && ltb d.card room) ≡ true =
    and_from (eqb y d.card) (ltb d.card room) (eq-eqb y d.card (sym e)) (lt-ltb d.card room (omega (arith, p.0))) in
    rest ∙ cond-false (drafted ds y) _ _ out ∙ cond-true (eqb y d.card && ltb d.card room) (min (suc (f y)) most) (f y) hit
    ∙ sym (cond-true (eqb d.card y || drafted ds y) (min (suc (f y)) most) (f y) (or_left (eqb d.card y) (drafted ds y) (eq-eqb d.card y e))))
    (λ (ne : d.card ≡ y → ⊥).
    let miss : (eqb y d.card && ltb d.card room) ≡ false = and_left (eqb y d.card) (ltb d.card room) (ne_eqb y d.card (λ s. ne (sym s))) in
    let same : bumped f d.card y ≡ f y = cond-false (eqb y d.card && ltb d.card room) (min (suc (f y)) most) (f y) miss in
    rest ∙ ap (λ k. cond (drafted ds y) (min (suc k) most) k) same
    ∙ ap (λ b. cond (b || drafted ds y) (min (suc (f y)) most) (f y)) (sym (ne_eqb d.card y ne)))
    (cases_eq d.card y)
