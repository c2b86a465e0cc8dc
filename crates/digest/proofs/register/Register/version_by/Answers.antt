use Rattle.std.proofs.Common.{◌≡◌, ℕ, suc, ◌%◌, ◌<◌, Bool, true, false, ◌&&◌, eqb, List, [], ◌∷◌, length, sym, ap, ◌∙◌, add-one, arith}
use Rattle.std.proofs.lemmas.Bool.{eqb-true, and_parts}
use Rattle.rules.specs.Rules.{is_writ}
use Rattle.reach.specs.Links.{picks}
use Rattle.digest.specs.declared.entry.Entry.{Entry}
use Rattle.digest.specs.Entries.{at, wrote, version_in}
use Rattle.digest.specs.Links.{tx_node, Linked}
use Rattle.digest.proofs.IndexLaws.{version_hit, version_skip}
use Rattle.digest.proofs.LinkLaws.{Only, Ahead, ahead_all, ahead_here, ahead_after, ahead_more, ahead_none}
use Rattle.digest.proofs.register.Register.version_by.Goals as goal

only : (es : List Entry) (x t : ℕ) → Only tx_node es (length es) (λ k. wrote (at es k) x t) (t % 2048)
only es x t = λ k lt h.
    let front = (and_parts (is_writ (at es k).kind && eqb (at es k).transaction.0 t) (eqb (at es k).card.0 x) h).0 in
    ap (λ n. n % 2048) (eqb-true (at es k).transaction.0 t (and_parts (is_writ (at es k).kind) (eqb (at es k).transaction.0 t) front).1)

-- the walk over the entries of the transaction t, for the WRIT of card x
module _ (count : ℕ) (comes : ℕ → ℕ → Bool) (es : List Entry) (x t : ℕ) (linked : Linked count comes tx_node es (length es)) where
  abbrev Left : List ℕ → Type 0
  Left = Ahead comes (t % 2048) (λ k. wrote (at es k) x t) (length es)

  starts : (m : ℕ) (xs : List ℕ) → m ≡ t % 2048 → xs ≡ picks (comes m) count → Left xs
  starts m xs node e = ahead_all count comes tx_node es linked _ (t % 2048) (length es) (omega arith) (only es x t) xs (e ∙ ap (λ n. picks (comes n) count) node ∙ ap (picks (comes (t % 2048))) linked.each)

  module _ (k : ℕ) (xs ys : List ℕ) (step : xs ≡ k ∷ ys) (h : Left xs) where
    here : k < length es
    here = ahead_here count comes tx_node es linked _ (t % 2048) (length es) (omega arith) (only es x t) k xs ys step h

    goes_on : wrote (at es k) x t ≡ false → Left ys
    goes_on f = ahead_more count comes tx_node es linked _ (t % 2048) (length es) (omega arith) (only es x t) k xs ys step h f

    found : wrote (at es k) x t ≡ true → version_in es x t (length es) ≡ suc k
    found is =
        version_skip es x t (suc k) (length es) here (ahead_after count comes tx_node es linked _ (t % 2048) (length es) (omega arith) (only es x t) k xs ys step h)
        ∙ version_hit es x t k is

  not_found : (xs : List ℕ) → xs ≡ [] → Left xs → version_in es x t (length es) ≡ 0
  unfolding version_in
  not_found xs e h = version_skip es x t 0 (length es) (omega arith) (ahead_none count comes tx_node es linked _ (t % 2048) (length es) (omega arith) (only es x t) xs e h)

pub loop-place-init : goal.loop-place-init
loop-place-init g c =
    let r = c.args.self.now in (
      tt,
      tt,
      starts (g.W.Walk.count r.transactions) (g.W.Walk.comes r.transactions) r.entries.items c.args.card.0 c.args.transaction.0 r.linked c.node_of.result _ c.node_of.ensures
          (rw c.into_iter-place-iterator.ensures.into_iter_gives c.from_node-place-items.ensures),
    )

pub bounds-deref-place : goal.bounds-deref-place
bounds-deref-place g c =
    let r = c.args.self.now in
    rw c.deref.ensures.0 (here (g.W.Walk.count r.transactions) (g.W.Walk.comes r.transactions) r.entries.items c.args.card.0 c.args.transaction.0 r.linked c.in-Some.place _ _ c.in-Some.ensures.steps c.loop-place.invariant.2)

pub offset_bounds-deref-place : goal.offset_bounds-deref-place
offset_bounds-deref-place g c =
    let r = c.args.self.now in
    omega (arith, here (g.W.Walk.count r.transactions) (g.W.Walk.comes r.transactions) r.entries.items c.args.card.0 c.args.transaction.0 r.linked c.in-Some.place _ _ c.in-Some.ensures.steps c.loop-place.invariant.2, r.room)

pub loop-place-preserved : goal.loop-place-preserved
loop-place-preserved g c =
    let r = c.args.self.now in (
      tt,
      tt,
      goes_on (g.W.Walk.count r.transactions) (g.W.Walk.comes r.transactions) r.entries.items c.args.card.0 c.args.transaction.0 r.linked c.in-Some.place _ _ c.in-Some.ensures.steps c.loop-place.invariant.2
          (sym (rw c.deref.ensures.0 at c.if-wrote.ensures)),
    )

pub returns-then-wrote : goal.returns-then-wrote
returns-then-wrote g c =
    let r = c.args.self.now in
    let is = sym (rw c.deref.ensures.0 at c.if-wrote.ensures) in
    add-one c.in-Some.place ∙ sym (found (g.W.Walk.count r.transactions) (g.W.Walk.comes r.transactions) r.entries.items c.args.card.0 c.args.transaction.0 r.linked c.in-Some.place _ _ c.in-Some.ensures.steps c.loop-place.invariant.2 is)

pub returns : goal.returns
returns g c =
    let r = c.args.self.now in
    sym (not_found (g.W.Walk.count r.transactions) (g.W.Walk.comes r.transactions) r.entries.items c.args.card.0 c.args.transaction.0 r.linked _ c.in-None.ensures.steps.0 c.loop-place.invariant.2)
