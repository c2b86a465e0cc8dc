use Rattle.std.proofs.Common.{◌≡◌, Some, None, vec_items, sym, ap, ◌∙◌, subst, arith}
use Rattle.transactions.specs.State.{last_at}
use Rattle.books.specs.declared.slip.Slip.{Slip}
use Rattle.sessions.specs.Slips.{is_for, less}
use Rattle.sessions.proofs.Holding.{found, none_held}
use Rattle.sessions.proofs.slips.take_slip.Goals as goal

pub remove-requires : goal.remove-requires
remove-requires c =
    let xs = vec_items c.args.slips.now in
    let at = subst (λ ys. Some c.in_ok-place.place ≡ last_at (is_for c.args.number.0) ys) c.as_slice.ensures.value (sym c.in_ok-place.was ∙ c.last_with.ensures) in
    let f = found xs c.args.number c.in_ok-place.place (record { number = record { 0 = 0 } }) at in
    omega (arith, f.within, c.args.slips.now.ok.0)

pub returns : goal.returns
returns c =
    let xs = vec_items c.args.slips.now in
    let at = subst (λ ys. Some c.in_ok-place.place ≡ last_at (is_for c.args.number.0) ys) c.as_slice.ensures.value (sym c.in_ok-place.was ∙ c.last_with.ensures) in
    let f = found xs c.args.number c.in_ok-place.place c.remove.result at in
    record {
      taken = (f.held, ap (λ (s : Slip). s.number) c.remove.ensures.value ∙ f.its);
      rest = c.remove.ensures.items ∙ ap (less xs) at;
      room = omega (arith, c.remove.ensures.len, c.remove.ensures.capacity, c.args.slips.now.ok.1);
      capacity = c.remove.ensures.capacity;
    }

pub returns-in_err-place-clause-taken : goal.returns-in_err-place-clause-taken
returns-in_err-place-clause-taken c =
    let xs = vec_items c.args.slips.now in
    let at = subst (λ ys. None ≡ last_at (is_for c.args.number.0) ys) c.as_slice.ensures.value (sym c.in_err-place.was ∙ c.last_with.ensures) in
    rw c.from_residual.ensures (none_held xs c.args.number.0 at)

pub returns-in_err-place-clause-rest : goal.returns-in_err-place-clause-rest
returns-in_err-place-clause-rest c =
    let xs = vec_items c.args.slips.now in
    let at = subst (λ ys. None ≡ last_at (is_for c.args.number.0) ys) c.as_slice.ensures.value (sym c.in_err-place.was ∙ c.last_with.ensures) in
    ap (less xs) at
