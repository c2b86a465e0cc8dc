-- What room is left after a command.
use Rattle.std.proofs.Common.{◌≡◌, ℕ, ◌+◌, ◌≤◌, Bool, true, false, cond, List, [], ◌∷◌, ◌++◌, length, count_by, All, vec_items, Some, None, Ok, Err, Option, Result, sym, refl, ap, ◌∙◌, subst, arith}
use Rattle.std.specs.Global.{Vec}
use Rattle.std.proofs.lemmas.List.{length_push}
use Rattle.std.proofs.lemmas.List.Edits.{length-remove}
use Rattle.std.proofs.lemmas.List.Elements.{All-pop}
use Rattle.std.proofs.lemmas.List.Sums.{sum_by-cons}
use Rattle.shelf.specs.Meaning.{Meaning}
use Rattle.records.specs.declared.line.Line.{Line}
use Rattle.transactions.specs.declared.event.Event.{Event}
use Rattle.transactions.specs.declared.event.Event.TheVariants as events
use Rattle.transactions.specs.declared.reading.Reading.{Reading}
use Rattle.transactions.specs.declared.refusal.Refusal.{Refusal}
use Rattle.transactions.specs.State.{Open, State, last_at, held as opened}
use Rattle.transactions.specs.Calls.{set_up_answer, emptied, open_answer, Opens, read_answer, read_entered, draft_answer, if_granted, after_end}
use Rattle.transactions.specs.Committing.{commit_answer, books_after, ends_by}
use Rattle.transactions.specs.Kept.{is_conflict}
use Rattle.stamps.specs.declared.numbers.TxNo.{TxNo}
use Rattle.books.specs.declared.slip.Slip.{Slip}
use Rattle.entries.proofs.Last.{last_at_holds}
use Rattle.sessions.specs.declared.answer.Answer.{Answer}
use Rattle.sessions.specs.declared.answer.Answer.TheVariants as answers
use Rattle.sessions.specs.declared.command.Command.{Command}
use Rattle.sessions.specs.declared.session.Session.{Session}
use Rattle.sessions.specs.Slips.{is_for, less, without, slip_for, slips_after}
use Rattle.sessions.specs.Exactly.{BooksCall, BooksAfter, Replied}
use Rattle.sessions.specs.Holding.{held}
use Rattle.sessions.specs.Room.{asks_journal, IsEmptyFor, HasRoom, JournalsLeft, RoomLeft}

-- no call changes how much memory the books have
granted_sizes : {T : Type 0} (r : Result T Refusal) (b c : State) → b.sizes ≡ c.sizes → (if_granted r b c).sizes ≡ c.sizes
granted_sizes (Ok x) b c e = e
granted_sizes (Err f) b c e = refl

open_sizes : (b c : State) (r : Result ℕ Refusal) → Opens b r c → c.sizes ≡ b.sizes
open_sizes b c (Ok n) (i, free, e) = ap (λ (z : State). z.sizes) e
open_sizes b c (Err f) e = ap (λ (z : State). z.sizes) e

read_sizes : (b : State) (n x : ℕ) (r : Result Reading Refusal) → (read_entered b n x r).sizes ≡ b.sizes
read_sizes b n x (Ok r) = refl
read_sizes b n x (Err f) = refl

commit_sizes : (m : Meaning) (b : State) (n : ℕ) (o : Option Open) (r : Result (Unit {0}) Refusal) → (books_after b m n o r).sizes ≡ b.sizes
commit_sizes m b n None r = refl
commit_sizes m b n (Some o) (Ok u) = refl
commit_sizes m b n (Some o) (Err f) = go (ends_by f)
  where
    go : (e : Bool) → (cond e (after_end b n) b).sizes ≡ b.sizes
    go true = refl
    go false = refl

call_sizes : (m : Meaning) (b c : State) (e : Event) → BooksCall m b e c → c.sizes ≡ b.sizes
call_sizes m b c (events.Open r) h = open_sizes b c (open_answer b) h
call_sizes m b c (events.Read t x r) h = ap (λ (z : State). z.sizes) h ∙ read_sizes b t.0 x.0 (read_answer b m t.0 x.0)
call_sizes m b c (events.Draft t x v r) h =
    ap (λ (z : State). z.sizes) h ∙ granted_sizes (draft_answer b t.0 x.0) _ b refl
call_sizes m b c (events.Commit t r) h =
    ap (λ (z : State). z.sizes) h ∙ commit_sizes m b t.0 (opened b t.0) (commit_answer b m t.0)
call_sizes m b c (events.Abandon t r) h = ap (λ (z : State). z.sizes) h
call_sizes m b c events.Close h = ap (λ (z : State). z.sizes) h

same_sizes : (m : Meaning) (b c : State) (a : Answer) → BooksAfter m b a c → c.sizes ≡ b.sizes
same_sizes m b c (answers.SetUp r) h =
    ap (λ (z : State). z.sizes) h ∙ granted_sizes (set_up_answer b m) (emptied b m) b refl
same_sizes m b c (answers.Call e) h = call_sizes m b c e h
same_sizes m b c answers.NoSlip h = ap (λ (z : State). z.sizes) h
same_sizes m b c (answers.Versions x r) h = ap (λ (z : State). z.sizes) h
same_sizes m b c (answers.Stamp x k r) h = ap (λ (z : State). z.sizes) h
same_sizes m b c (answers.Journal ls) h = ap (λ (z : State). z.sizes) h

-- a command brings one slip more at the most
fewer : (xs : List Slip) (t : ℕ) → length (without xs t) ≤ length xs
fewer xs t = go (last_at (is_for t) xs) refl
  where
    go : (o : Option ℕ) → last_at (is_for t) xs ≡ o → length (less xs o) ≤ length xs
    go None e = omega arith
    go (Some i) e =
        let (lt, p) = last_at_holds (is_for t) xs i (slip_for (record { 0 = t })) e in
        omega (arith, length-remove xs i lt)

one_more : (xs : List Slip) (s : Slip) → length (xs ++ (s ∷ [])) ≤ length xs + 1
one_more xs s = omega (arith, length_push xs s)

refused_slips : (xs : List Slip) (t : TxNo) (b : Bool)
    → length (cond b (without xs t.0) (without xs t.0 ++ (slip_for t ∷ []))) ≤ length xs + 1
refused_slips xs t true = omega (arith, fewer xs t.0)
refused_slips xs t false = omega (arith, fewer xs t.0, one_more (without xs t.0) (slip_for t))

slips_grow : (xs : List Slip) (a : Answer) → length (slips_after xs a) ≤ length xs + 1
slips_grow xs (answers.SetUp r) = omega arith
slips_grow xs (answers.Call (events.Open (Ok t))) = one_more xs (slip_for t)
slips_grow xs (answers.Call (events.Open (Err f))) = omega arith
slips_grow xs (answers.Call (events.Read t x r)) = omega arith
slips_grow xs (answers.Call (events.Draft t x v r)) = omega arith
slips_grow xs (answers.Call (events.Commit t (Ok u))) = omega (arith, fewer xs t.0)
slips_grow xs (answers.Call (events.Commit t (Err f))) = refused_slips xs t (is_conflict f)
slips_grow xs (answers.Call (events.Abandon t r)) = omega (arith, fewer xs t.0)
slips_grow xs (answers.Call events.Close) = omega arith
slips_grow xs answers.NoSlip = omega arith
slips_grow xs (answers.Versions x r) = omega arith
slips_grow xs (answers.Stamp x k r) = omega arith
slips_grow xs (answers.Journal ls) = omega arith

one_of : (c : Command) (cs : List Command) → count_by asks_journal (c ∷ cs) ≡ cond (asks_journal c) 1 0 + count_by asks_journal cs
one_of c cs = sum_by-cons (λ x. cond (asks_journal x) 1 0) c cs

-- the lists for journals: one less for each that was asked for
lists_left : (P : Vec Line → Type 0) (c : Command) (cs : List Command) (xs ys : List (Vec Line)) → JournalsLeft c xs ys
    → count_by asks_journal (c ∷ cs) ≤ length xs → All P xs → (count_by asks_journal cs ≤ length ys) × All P ys
lists_left P c cs xs ys h le all = go (asks_journal c) h (subst (λ n. n ≤ length xs) (one_of c cs) le)
  where
    go : (b : Bool) → cond b ((v : Vec Line) × (xs ≡ ys ++ (v ∷ []))) (ys ≡ xs)
        → cond b 1 0 + count_by asks_journal cs ≤ length xs
        → (count_by asks_journal cs ≤ length ys) × All P ys
    go true (v, e) lt = (omega (arith, ap length e, length_push ys v), (All-pop P xs ys (Some v) e all).0)
    go false e lt = (omega (arith, ap length e), subst (All P) (sym e) all)

pub room_left : (s t : Session) (c : Command) (cs : List Command) (m n : Meaning) (a : Answer)
    → Replied m (held s) c a n (held t) → RoomLeft s c t → HasRoom s (c ∷ cs) → HasRoom t cs
room_left s t c cs m n a r left h =
    let sizes = same_sizes m (held s).books (held t).books a r.books in
    let (count, all) = lists_left (IsEmptyFor (held s).books.sizes.lines) c cs (vec_items s.journals) (vec_items t.journals)
    left.journals (omega (arith, h.journals, s.journals.ok.0)) h.lines in
    record {
      slips = omega (arith, slips_grow (held s).slips a, ap length r.slips, h.slips, left.slips, s.slips.ok.0, t.slips.ok.0);
      journals = omega (arith, count, t.journals.ok.0);
      lines = subst (λ z. All (IsEmptyFor z) (vec_items t.journals)) (sym (ap (λ z. z.lines) sizes)) all;
    }

-- room for commands is room for the first of them
pub room_first : (s : Session) (c : Command) (cs : List Command) → HasRoom s (c ∷ cs) → HasRoom s (c ∷ [])
room_first s c cs h =
    record { slips = omega (arith, h.slips); journals = omega (arith, h.journals, one_of c cs, one_of c []); lines = h.lines }
