-- Chains over the drafts. Assumes nothing.
use Rattle.std.proofs.Common.{◌≡◌, ℕ, ◌+◌, Bool, true, false, cond, ◌||◌, ltb, List, [], ◌∷◌, map, length, refl, ap, arith}
use Rattle.std.specs.List.{filter, list_any}
use Rattle.shelf.specs.Meaning.{Meaning}
use Rattle.isolation.specs.Account.{Draft}
use Rattle.transactions.specs.Committing.{in_drawer, crowded_by}
use Rattle.entries.specs.declared.entries.DraftEntry.{DraftEntry}
use Rattle.entries.specs.Contents.{drafting}

module _ (m : Meaning) where
  pub drawer_is : (x : ℕ) (es : List DraftEntry) → length (filter (λ e. m.shares x e.card.0) es) ≡ in_drawer m x (map drafting es)
  drawer_is x [] = refl
  drawer_is x (e ∷ es) = go (m.shares x e.card.0) (drawer_is x es)
    where
      go : (b : Bool) → length (filter (λ y. m.shares x y.card.0) es) ≡ in_drawer m x (map drafting es) →
          length (cond b (e ∷ filter (λ y. m.shares x y.card.0) es) (filter (λ y. m.shares x y.card.0) es)) ≡ cond {A = ℕ} b 1 0 + in_drawer m x (map drafting es)
      go true h = omega (arith, h)
      go false h = omega (arith, h)

  pub crowd_is : (ds : List Draft) (es : List DraftEntry) → list_any (λ e. ltb (m.free e.card.0) (in_drawer m e.card.0 ds)) es ≡ crowded_by m (map drafting es) ds
  crowd_is ds [] = refl
  crowd_is ds (e ∷ es) = ap (λ b. ltb (m.free e.card.0) (in_drawer m e.card.0 ds) || b) (crowd_is ds es)
