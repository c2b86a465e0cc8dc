use Rattle.std.proofs.Common.{◌≡◌, ℕ, ◌<◌, ◌≤◌, ◌⊎◌, inl, inr, cond, ltb, leb, length, min, get_or, Some, None, sym, refl, ap, ◌∙◌, arith}
use mathlib.Core.Path.{fun_ext}
use Rattle.std.proofs.lemmas.Bool.{cond-true, cond-false, and_right, and_from, le-leb, le-ltb, cases_lt}
use Rattle.std.proofs.lemmas.List.{get_or_past}
use Rattle.stamps.specs.Counts.{countable, all_small, counts_at}
use Rattle.stamps.proofs.Zeros.{zeros, copied_all, not_small, small_from}
use Rattle.stamps.proofs.stamp.Stamp.from_counts.Goals as goal

pub loop-i-init : goal.loop-i-init
loop-i-init c = record {
  full = refl;
  copied = λ k. zeros 256 k ∙ sym (cond-false _ _ _ (le-ltb k 0 (omega arith)));
  fit = λ e k h. absurd (omega arith);
  large = λ e. absurd (cc);
}

pub returns-then-not-all_fit : goal.returns-then-not-all_fit
returns-then-not-all_fit c =
    let xs = c.args.list.now in
    let (k, low, large) = c.loop-i.invariant.large c.if-not-all_fit.true in
    let out = not_small xs k (omega (arith, low, c.loop-i.auto.i-end)) large in
    sym (cond-false (countable 256 xs) (Some (counts_at xs)) None (and_right (leb (length xs) 256) (all_small xs) out))

pub returns : goal.returns
returns c =
    let xs = c.args.list.now in
    let each : (i : ℕ) → i < length xs → get_or xs i 0 ≤ 65535 = λ i h. c.loop-i.invariant.fit c.if-not-all_fit.false i (omega (arith, c.loop-i-test.false)) in
    let fits = and_from (leb (length xs) 256) (all_small xs) (le-leb (length xs) 256 (omega arith)) (small_from xs each) in
    ap Some (fun_ext (λ k. c.loop-i.invariant.copied k ∙ same k (each k) ∙ copied_all xs c.loop-i.i k (omega (arith, c.loop-i-test.false))))
    ∙ sym (cond-true (countable 256 xs) (Some (counts_at xs)) None fits)
  where
    same : (k : ℕ) → (k < length c.args.list.now → get_or c.args.list.now k 0 ≤ 65535)
        → cond (ltb k c.loop-i.i) (min (get_or c.args.list.now k 0) 65535) 0 ≡ cond (ltb k c.loop-i.i) (get_or c.args.list.now k 0) 0
    same k small = ap (λ n. cond (ltb k c.loop-i.i) n 0) (least (cases_lt k (length c.args.list.now)))
      where
        least : (k < length c.args.list.now) ⊎ (length c.args.list.now ≤ k) → min (get_or c.args.list.now k 0) 65535 ≡ get_or c.args.list.now k 0
        least (inl lt) = omega (arith, small lt)
        least (inr past) = let none = get_or_past c.args.list.now k 0 past in omega (arith, none)
