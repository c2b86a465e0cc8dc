use Rattle.std.proofs.Common.{◌≡◌, ℕ, suc, ◌%◌, ◌<◌, Bool, false, eqb, List, [], ◌∷◌, length, sym, ap, ◌∙◌, arith}
use Rattle.std.proofs.lemmas.Bool.{eqb-true}
use Rattle.reach.specs.Links.{picks}
use Rattle.digest.specs.declared.entry.Entry.{Entry}
use Rattle.digest.specs.Entries.{at, owner_in}
use Rattle.digest.specs.Links.{tx_node, Linked}
use Rattle.digest.proofs.IndexLaws.{owner_hit, owner_skip}
use Rattle.digest.proofs.LinkLaws.{Only, Ahead, ahead_all, ahead_here, ahead_after, ahead_more, ahead_none}
use Rattle.digest.proofs.register.Register.owner_of.Goals as goal

only : (es : List Entry) (t : ℕ) → Only tx_node es (length es) (λ k. eqb (at es k).transaction.0 t) (t % 2048)
only es t = λ k lt h. ap (λ n. n % 2048) (eqb-true (at es k).transaction.0 t h)

-- the walk over the entries of the transaction t
module _ (count : ℕ) (comes : ℕ → ℕ → Bool) (es : List Entry) (t : ℕ) (linked : Linked count comes tx_node es (length es)) where
  abbrev Left : List ℕ → Type 0
  Left = Ahead comes (t % 2048) (λ k. eqb (at es k).transaction.0 t) (length es)

  starts : (m : ℕ) (xs : List ℕ) → m ≡ t % 2048 → xs ≡ picks (comes m) count → Left xs
  starts m xs node e = ahead_all count comes tx_node es linked _ (t % 2048) (length es) (omega arith) (only es t) xs (e ∙ ap (λ n. picks (comes n) count) node ∙ ap (picks (comes (t % 2048))) linked.each)

  module _ (k : ℕ) (xs ys : List ℕ) (step : xs ≡ k ∷ ys) (h : Left xs) where
    here : k < length es
    here = ahead_here count comes tx_node es linked _ (t % 2048) (length es) (omega arith) (only es t) k xs ys step h

    goes_on : eqb (at es k).transaction.0 t ≡ false → Left ys
    goes_on f = ahead_more count comes tx_node es linked _ (t % 2048) (length es) (omega arith) (only es t) k xs ys step h f

    found : (at es k).transaction.0 ≡ t → owner_in es t (length es) ≡ (at es k).owner
    found is =
        owner_skip es t (suc k) (length es) here (ahead_after count comes tx_node es linked _ (t % 2048) (length es) (omega arith) (only es t) k xs ys step h)
        ∙ owner_hit es t k is

  not_found : (xs : List ℕ) → xs ≡ [] → Left xs → owner_in es t (length es) ≡ length es
  unfolding owner_in
  not_found xs e h = owner_skip es t 0 (length es) (omega arith) (ahead_none count comes tx_node es linked _ (t % 2048) (length es) (omega arith) (only es t) xs e h)

pub loop-place-init : goal.loop-place-init
loop-place-init g c =
    let r = c.args.self.now in (
      tt,
      tt,
      starts (g.W.Walk.count r.transactions) (g.W.Walk.comes r.transactions) r.entries.items c.args.transaction.0 r.linked c.node_of.result _ c.node_of.ensures
          (rw c.into_iter-place-iterator.ensures.into_iter_gives c.from_node-place-items.ensures),
    )

pub bounds-deref-place : goal.bounds-deref-place
bounds-deref-place g c =
    let r = c.args.self.now in
    rw c.deref.ensures.0 (here (g.W.Walk.count r.transactions) (g.W.Walk.comes r.transactions) r.entries.items c.args.transaction.0 r.linked c.in-Some.place _ _ c.in-Some.ensures.steps c.loop-place.invariant.2)

pub offset_bounds-deref-place : goal.offset_bounds-deref-place
offset_bounds-deref-place g c =
    let r = c.args.self.now in
    omega (arith, here (g.W.Walk.count r.transactions) (g.W.Walk.comes r.transactions) r.entries.items c.args.transaction.0 r.linked c.in-Some.place _ _ c.in-Some.ensures.steps c.loop-place.invariant.2, r.room)

pub loop-place-preserved : goal.loop-place-preserved
loop-place-preserved g c =
    let r = c.args.self.now in (
      tt,
      tt,
      goes_on (g.W.Walk.count r.transactions) (g.W.Walk.comes r.transactions) r.entries.items c.args.transaction.0 r.linked c.in-Some.place _ _ c.in-Some.ensures.steps c.loop-place.invariant.2
          (sym (rw c.deref.ensures.0 at c.eq.ensures) ∙ c.if-eq.false),
    )

pub returns-then-eq : goal.returns-then-eq
returns-then-eq g c =
    let r = c.args.self.now in
    let is = eqb-true _ _ (sym (rw c.deref.ensures.0 at c.eq.ensures) ∙ c.if-eq.true) in
    rw c.deref.ensures.0 (sym (found (g.W.Walk.count r.transactions) (g.W.Walk.comes r.transactions) r.entries.items c.args.transaction.0 r.linked c.in-Some.place _ _ c.in-Some.ensures.steps c.loop-place.invariant.2 is))

pub returns : goal.returns
returns g c =
    let r = c.args.self.now in
    c.len.ensures.value ∙ sym (not_found (g.W.Walk.count r.transactions) (g.W.Walk.comes r.transactions) r.entries.items c.args.transaction.0 r.linked _ c.in-None.ensures.steps.0 c.loop-place.invariant.2)
