-- What two shelves joined by a split mean. Assumes nothing.
--     Parts               a meaning for each side;  parts l r   that of l on the left and r on the right
--     same_side s t       s and t are one side
--     side_at a b c       where card c is kept, if the left has a cards and the right b: the left's cards come first, then the right's,
--                         up to 256 in all; the side, and the card's number there
--     side_of p c         the same, at the cards of the two parts
--     located o n f       f at the side and number o, and n where o is none
--     narrowed w v        version v with its stamp's counts from the width w on put to 0
--     join p              the meaning of the whole
--     with_side p s m     the parts with m on side s
--     Kept p c o          o is where card c is kept: the whole answers of the card as that side does, with stamps cut at the whole's width, and
--                         takes a version as that side does, if its list of counts is no longer than the whole's width
use Rattle.std.specs.Prelude.{◌≡◌, ℕ, ◌+◌, ◌-◌, ◌≤◌, min, Bool, true, false, cond, ◌&&◌, List, [], map, length, Some, None, Err, Option, nat_le, nat_lt}
use Rattle.std.specs.Option.{option_map}
use Rattle.stamps.specs.Counts.{room, cut}
use Rattle.stamps.specs.declared.numbers.CardNo.{CardNo}
use Rattle.stamps.specs.declared.value.Value.{Value}
use Rattle.shelf.specs.declared.refusal.PutRefusal.TheVariants.{NoCard, BadStamp}
use Rattle.splits.specs.declared.split.Side.{Side}
use Rattle.splits.specs.declared.split.Side.TheVariants.{Left, Right}
use Rattle.shelf.specs.Meaning.{Version, Meaning}
use Rattle.shelf.specs.Putting.{put_answer, after_put}
use Rattle.shelf.specs.Questions.{versions_of, newest_of, shares_of, free_of, value_of, writer_of, entry_of, stamp_of}

abbrev pub Parts : Type 0
Parts = Side → Meaning

abbrev pub parts : Meaning → Meaning → Parts
parts l r Left = l
parts l r Right = r

abbrev pub same_side : Side → Side → Bool
same_side Left Left = true
same_side Left Right = false
same_side Right Left = false
same_side Right Right = true

abbrev pub side_at : ℕ → ℕ → ℕ → Option (Side × CardNo)
side_at a b c =
    cond (nat_lt c (min (a + b) room)) (cond (nat_lt c a) (Some (Left, record { 0 = c })) (Some (Right, record { 0 = c - a }))) None

abbrev pub side_of : Parts → ℕ → Option (Side × CardNo)
side_of p c = side_at (p Left).cards (p Right).cards c

abbrev pub located : {A : Type 0} → Option (Side × CardNo) → A → (Side → ℕ → A) → A
located None n f = n
located (Some (s, d)) n f = f s d.0

abbrev pub narrowed : ℕ → Version → Version
narrowed w v = record { value = v.value; writer = v.writer; stamp = cut w v.stamp }

unfoldable pub join : Parts → Meaning
join p =
    record {
      cards = min ((p Left).cards + (p Right).cards) room;
      width = min (p Left).width (p Right).width;
      line = λ c. located (side_of p c) [] (λ s d. map (narrowed (min (p Left).width (p Right).width)) ((p s).line d));
      shares = λ a b. located (side_of p a) false (λ s d. located (side_of p b) false (λ t e. same_side s t && (p s).shares d e));
      free = λ c. located (side_of p c) 0 (λ s d. (p s).free d);
    }

abbrev pub with_side : Parts → Side → Meaning → Parts
with_side p Left m = parts m (p Right)
with_side p Right m = parts (p Left) m

pub record Kept (p : Parts) (c : ℕ) (o : Option (Side × CardNo)) : Type 0 where
  pub side : o ≡ side_of p c
  pub versions : versions_of (join p) c ≡ located o None (λ s d. versions_of (p s) d)
  pub newest : newest_of (join p) c ≡ located o None (λ s d. newest_of (p s) d)
  pub shares : (b : ℕ) → shares_of (join p) c b ≡ located o None (λ s d. located (side_of p b) None (λ t e. cond (same_side s t) (shares_of (p s) d e) (Some false)))
  pub free : free_of (join p) c ≡ located o None (λ s d. free_of (p s) d)
  pub value : (k : ℕ) → value_of (join p) c k ≡ located o None (λ s d. value_of (p s) d k)
  pub writer : (k : ℕ) → writer_of (join p) c k ≡ located o None (λ s d. writer_of (p s) d k)
  pub entry : (k i : ℕ) → entry_of (join p) c k i ≡ option_map (λ n. cond (nat_lt i (join p).width) n 0) (located o None (λ s d. entry_of (p s) d k i))
  pub stamp : (k : ℕ) → stamp_of (join p) c k ≡ option_map (cut (join p).width) (located o None (λ s d. stamp_of (p s) d k))
  pub answer : (xs : List ℕ) → put_answer (join p) c xs ≡ located o (Err NoCard) (λ s d. cond (nat_le (length xs) (join p).width) (put_answer (p s) d xs) (Err BadStamp))
  pub after : (t : Value) (w : ℕ) (xs : List ℕ) → length xs ≤ (join p).width → after_put (join p) c t w xs ≡ located o (join p) (λ s d. join (with_side p s (after_put (p s) d t w xs)))
