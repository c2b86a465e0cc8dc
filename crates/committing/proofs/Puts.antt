-- Putting drafts in rising card order. Assumes nothing.
use Rattle.std.proofs.Common.{◌≡◌, ℕ, suc, ◌<◌, ◌≤◌, true, false, leb, List, length, take, sym, ap, ◌∙◌, arith}
use mathlib.Core.Path.{fun_ext}
use Rattle.std.proofs.lemmas.List.{length-take-le}
use Rattle.std.proofs.lemmas.Bool.{and_from, le-leb}
use Rattle.stamps.specs.Blank.{blank}
use Rattle.stamps.specs.Counts.{counts_at, cut, countable, all_small}
use Rattle.stamps.specs.declared.value.Value.{Value}
use Rattle.stamps.proofs.Zeros.{small_take, counts_take}
use Rattle.shelf.specs.Meaning.{Version, Meaning}
use Rattle.shelf.specs.Sound.{Sound}
use Rattle.shelf.specs.Putting.{after_put, added, made_version}
use Rattle.isolation.specs.Account.{drafted, draft_of}
use Rattle.transactions.specs.State.{Open}
use Rattle.transactions.specs.Committing.{crowded, new_count, new_version, put_cards}
use Rattle.transactions.proofs.Putting.{put_added, put_next, put_skips}
use Rattle.entries.proofs.Walks.{still}

-- the front of a stamp's list of counts
pub front_fits : (w : ℕ) (xs : List ℕ) → w ≤ length xs → all_small xs ≡ true → countable w (take w xs) ≡ true
front_fits w xs h small =
    and_from (leb (length (take w xs)) w) (all_small (take w xs)) (le-leb (length (take w xs)) w (omega (arith, length-take-le w xs h))) (small_take w xs small)

pub front_counts : (w : ℕ) (xs : List ℕ) (f : ℕ → ℕ) → counts_at xs ≡ f → counts_at (take w xs) ≡ cut w f
front_counts w xs f e = fun_ext (counts_take w xs) ∙ ap (cut w) e

-- a put of a card and a writer with these numbers
pub put_as : (M M' : Meaning) (x x' n n' k k' : ℕ) (v : Value) (xs : List ℕ) → M' ≡ after_put M x v n (take k xs) → x ≡ x' → n ≡ n' → k ≡ k' →
    M' ≡ after_put M x' v n' (take k' xs)
put_as M M' x x' n n' k k' v xs now card writer many =
    now ∙ ap (λ y. after_put M y v n (take k xs)) card ∙ ap (λ t. after_put M x' v t (take k xs)) writer ∙ ap (λ j. after_put M x' v n' (take j xs)) many

module _ (m : Meaning) (s : Sound m) (o : Open) (spare : crowded m o.drafts ≡ false) where
  pub put_still : (from k : ℕ) → from ≤ k → ((x : ℕ) → from ≤ x → x < k → drafted o.drafts x ≡ false) → put_cards m o k ≡ put_cards m o from
  put_still from k h none = still (put_cards m o) (drafted o.drafts) (put_skips m o) from k h none

  pub put_step : (from x : ℕ) (v : Value) (xs : List ℕ) (M M' : Meaning) → x < m.cards → drafted o.drafts x ≡ true → countable m.width xs ≡ true →
      counts_at xs ≡ cut m.width (new_count m o.reads o.drafts) → v ≡ draft_of o.drafts x blank → M ≡ put_cards m o from →
      put_cards m o x ≡ put_cards m o from → M' ≡ after_put M x v o.number xs → M' ≡ put_cards m o (suc x)
  put_step from x v xs M M' low there fits counts words before same now =
      let made : Value → (ℕ → ℕ) → Version = λ w f. record { value = w; writer = o.number; stamp = f } in
      let new : made_version v o.number xs ≡ new_version m o x = ap (λ w. made w (counts_at xs)) words ∙ ap (made (draft_of o.drafts x blank)) counts in
      now ∙ ap (λ n. after_put n x v o.number xs) (before ∙ sym same) ∙ put_added m s o x v o.number xs low spare there fits
      ∙ ap (added (put_cards m o x) x) new ∙ sym (put_next m o x there)
