-- What putting answers and leaves, from a shelf's meaning. Assumes nothing.
--     put_answer m c xs       whether a version of card c with the counts xs is put, or why not
--     made_version t w xs     the version with value t, writer w and the counts xs, filled up with zeros
--     added m c v             m with v as card c's newest version and one free place less in its drawer
--     after_put m c t w xs    what is left: `added` where the version is put, else m
use Rattle.std.specs.Prelude.{ℕ, pred, cond, List, [], ◌∷◌, ◌++◌, is_ok, Ok, Err, Result, ◌==◌, nat_lt}
use Rattle.stamps.specs.Counts.{counts_at, countable}
use Rattle.stamps.specs.declared.value.Value.{Value}
use Rattle.shelf.specs.declared.refusal.PutRefusal.{PutRefusal}
use Rattle.shelf.specs.declared.refusal.PutRefusal.TheVariants.{NoCard, BadStamp, NoPlace}
use Rattle.shelf.specs.Meaning.{Version, Meaning}

abbrev pub put_answer : Meaning → ℕ → List ℕ → Result (Unit {0}) PutRefusal
put_answer m c xs =
    cond (nat_lt c m.cards)
    (cond (countable m.width xs) (cond (nat_lt 0 (m.free c)) (Ok tt) (Err NoPlace)) (Err BadStamp))
    (Err NoCard)

abbrev pub made_version : Value → ℕ → List ℕ → Version
made_version t w xs = record { value = t; writer = w; stamp = counts_at xs }

abbrev pub added : Meaning → ℕ → Version → Meaning
added m c v =
    record {
      cards = m.cards;
      width = m.width;
      line = λ d. cond (d == c) (m.line d ++ v ∷ []) (m.line d);
      shares = m.shares;
      free = λ d. cond (m.shares c d) (pred (m.free d)) (m.free d);
    }

abbrev pub after_put : Meaning → ℕ → Value → ℕ → List ℕ → Meaning
after_put m c t w xs = cond (is_ok (put_answer m c xs)) (added m c (made_version t w xs)) m
