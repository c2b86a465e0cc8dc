-- What one run answers, every run answers, whichever free places transactions are opened in.
--     Kin g ps qs                 the same transactions are open in ps and in qs, in whichever places; g numbers are given
--     every_run                   a day goes as expected where the run by first free places does
use Rattle.std.proofs.Common.{◌≡◌, ℕ, suc, ◌+◌, Bool, true, false, cond, eqb, List, [], ◌∷◌, set, Some, None, Ok, Err, Option, Result, sym, refl, ap, ◌∙◌, subst, arith}
use Rattle.std.specs.List.{slice_get}
use Rattle.std.proofs.lemmas.Bool.{ne_eqb, false≢true}
use Rattle.stamps.specs.declared.value.Value.{Value}
use Rattle.shelf.specs.Meaning.{Meaning}
use Rattle.transactions.specs.declared.reading.Reading.{Reading}
use Rattle.transactions.specs.declared.refusal.Refusal.{Refusal}
use Rattle.transactions.specs.declared.refusal.Refusal.TheVariants as refusals
use Rattle.transactions.specs.State.{Open, State, with_places, put_back, most_numbers}
use Rattle.transactions.specs.Calls.{all_taken, open_answer, opened_at, Opens, with_read, read_entered, read_by, with_words, draft_by, if_granted, after_end}
use Rattle.transactions.specs.Committing.{commit_by, with_journal, journal_with, shelf_with, ends_by, books_after, shelf_after}
use Rattle.examples.specs.Days.{Call, opens, reads, drafts, commits, stamp, journal, Step, ◌⟼◌, said, opening_said, reading_said, grant_said, Leaves, Goes}
use Rattle.examples.proofs.Places.{sitting, spare, Tidy, Ours}
use Rattle.examples.proofs.Sitting.{refilled, if_sitting, gained, refilling, taking, ours_found}
use Rattle.examples.proofs.Runs.{first_free, opened_first, books_next, shelf_next, answers, expected}

pub record Kin (g : ℕ) (ps qs : List (Option Open)) : Type 0 where
  pub tidy : Tidy g ps
  pub other_tidy : Tidy g qs
  pub same : (n : ℕ) → sitting ps n ≡ sitting qs n
  pub spare_same : spare ps ≡ spare qs

-- each transaction n is open or not as before, but for what f makes of it
kin_put : (g : ℕ) (ps qs : List (Option Open)) → Kin g ps qs → (n : ℕ) (f : Option Open → Option Open)
    → ((o : Option Open) → Ours n o → Ours n (f o)) → Kin g (refilled ps n (f (sitting ps n))) (refilled qs n (f (sitting qs n)))
kin_put g ps qs kin n f keeps =
    let a = refilling g ps kin.tidy n (f (sitting ps n)) (keeps (sitting ps n) (ours_found ps n)) in
    let b = refilling g qs kin.other_tidy n (f (sitting qs n)) (keeps (sitting qs n) (ours_found qs n)) in
    let e : gained (sitting ps n) (f (sitting ps n)) ≡ gained (sitting qs n) (f (sitting qs n)) = ap (λ o. gained o (f o)) (kin.same n) in
    record {
      tidy = a.tidy;
      other_tidy = b.tidy;
      same = λ k. a.view k ∙ ap (λ o. cond (eqb k n) (if_sitting o (f o)) (sitting ps k)) (kin.same n)
          ∙ ap (λ o. cond (eqb k n) (if_sitting (sitting qs n) (f (sitting qs n))) o) (kin.same k) ∙ sym (b.view k);
      spare_same = omega (arith, a.free, b.free, kin.spare_same);
    }

kin_take : (g : ℕ) (ps qs : List (Option Open)) → Kin g ps qs → (i j : ℕ) (o : Open)
    → slice_get ps i ≡ Some None → slice_get qs j ≡ Some None → o.number ≡ suc g → Kin (suc g) (set ps i (Some o)) (set qs j (Some o))
kin_take g ps qs kin i j o at other_at its =
    let a = taking g ps kin.tidy i o at its in
    let b = taking g qs kin.other_tidy j o other_at its in
    record {
      tidy = a.tidy;
      other_tidy = b.tidy;
      same = λ k. a.view k ∙ ap (λ p. cond (eqb k o.number) (Some o) p) (kin.same k) ∙ sym (b.view k);
      spare_same = omega (arith, a.free, b.free, kin.spare_same);
    }

taken_all : (ps : List (Option Open)) → all_taken ps ≡ eqb (spare ps) 0
taken_all [] = refl
taken_all (None ∷ ps) = sym (ne_eqb (1 + spare ps) 0 (λ e. omega arith))
taken_all (Some o ∷ ps) = taken_all ps ∙ ap (λ n. eqb n 0) (omega arith)

free_first : (ps : List (Option Open)) → all_taken ps ≡ false → slice_get ps (first_free ps) ≡ Some None
free_first [] e = absurd (false≢true (sym e))
free_first (None ∷ ps) e = refl
free_first (Some o ∷ ps) e = free_first ps e

opening : State → Bool → Result ℕ Refusal
opening c t = cond t (Err refusals.AllOpen) (cond (eqb c.given most_numbers) (Err refusals.NumbersOut) (Ok (suc c.given)))

-- a number is given only where a place is free
place_free : (c : State) (t : Bool) (n : ℕ) → opening c t ≡ Ok n → t ≡ false
unfolding opening
place_free c true n e = let z : ◌≡◌ {A = ℕ} 0 1 = cc in absurd (omega arith)
place_free c false n e = refl

open_same : (c : State) (ps qs : List (Option Open)) → spare ps ≡ spare qs → open_answer (with_places c ps) ≡ open_answer (with_places c qs)
unfolding opening
open_same c ps qs e = ap (opening c) (taken_all ps ∙ ap (λ n. eqb n 0) e ∙ sym (taken_all qs))

split : {A : Type 0} (x y : A) (xs ys : List A) → x ∷ xs ≡ y ∷ ys → (x ≡ y) × (xs ≡ ys)
split x y xs ys e = (cc, cc)

-- the steps ss go as expected from any books that are alike
abbrev Onward : List Step → Type 0
Onward ss = (c : State) (m : Meaning) (ps qs : List (Option Open)) → Kin c.given ps qs
    → answers (with_places c qs) m ss ≡ expected ss → Goes (with_places c ps) m ss

module _ (ss : List Step) (on : Onward ss) (c : State) (m : Meaning) (ps qs : List (Option Open)) (kin : Kin c.given ps qs) where
  put_on : (d : State) → d.given ≡ c.given → (n : ℕ) (f : Option Open → Option Open) → ((o : Option Open) → Ours n o → Ours n (f o))
      → (m : Meaning) → answers (with_places d (refilled qs n (f (sitting qs n)))) m ss ≡ expected ss
      → Goes (with_places d (refilled ps n (f (sitting ps n)))) m ss
  put_on d e n f keeps m a =
      on d m (refilled ps n (f (sitting ps n))) (refilled qs n (f (sitting qs n)))
      (subst (λ g. Kin g (refilled ps n (f (sitting ps n))) (refilled qs n (f (sitting qs n)))) (sym e) (kin_put c.given ps qs kin n f keeps)) a

  end_on : (d : State) → d.given ≡ c.given → (n : ℕ) (m : Meaning) → answers (with_places d (refilled qs n None)) m ss ≡ expected ss
      → Goes (with_places d (refilled ps n None)) m ss
  end_on d e n m a = put_on d e n (λ o. None) (λ o h. tt) m a

  reads_on : (t x : ℕ) (r : Result Reading Refusal) → answers (read_entered (with_places c qs) t x r) m ss ≡ expected ss
      → Goes (read_entered (with_places c ps) t x r) m ss
  reads_on t x (Ok r) a = put_on c refl t (λ o. with_read o x r.version.0) keeps m a
    where
      keeps : (o : Option Open) → Ours t o → Ours t (with_read o x r.version.0)
      keeps None h = tt
      keeps (Some o) h = h
  reads_on t x (Err f) a = on c m ps qs kin a

  drafts_on : (t x : ℕ) (v : Value) (r : Result (Unit {0}) Refusal)
      → answers (if_granted r (put_back (with_places c qs) t (with_words (sitting qs t) x v)) (with_places c qs)) m ss ≡ expected ss
      → Goes (if_granted r (put_back (with_places c ps) t (with_words (sitting ps t) x v)) (with_places c ps)) m ss
  drafts_on t x v (Ok u) a = put_on c refl t (λ o. with_words o x v) keeps m a
    where
      keeps : (o : Option Open) → Ours t o → Ours t (with_words o x v)
      keeps None h = tt
      keeps (Some o) h = h
  drafts_on t x v (Err f) a = on c m ps qs kin a

  commits_on : (t : ℕ) (o : Option Open) (r : Result (Unit {0}) Refusal)
      → answers (books_after (with_places c qs) m t o r) (shelf_after (with_places c qs) m o r) ss ≡ expected ss
      → Goes (books_after (with_places c ps) m t o r) (shelf_after (with_places c ps) m o r) ss
  commits_on t None r a = on c m ps qs kin a
  commits_on t (Some o) (Ok u) a =
      end_on (with_journal c (journal_with c m o.drafts o)) refl t (shelf_with c m o.drafts o) a
  commits_on t (Some o) (Err f) a = go (ends_by f) a
    where
      go : (b : Bool) → answers (cond b (after_end (with_places c qs) t) (with_places c qs)) m ss ≡ expected ss
          → Goes (cond b (after_end (with_places c ps) t) (with_places c ps)) m ss
      go true a = end_on c refl t m a
      go false a = on c m ps qs kin a

  opens_on : (r : Result ℕ Refusal) → open_answer (with_places c qs) ≡ r → answers (opened_first (with_places c qs) r) m ss ≡ expected ss
      → (b : State) → Opens (with_places c ps) r b → Goes b m ss
  unfolding opening
  opens_on (Ok n) e a b (i, at, is) =
      let o : Open = record { number = suc c.given; reads = []; drafts = [] } in
      let free = free_first qs (place_free c (all_taken qs) n e) in
      subst (λ b. Goes b m ss) (sym is)
      (on (opened_at c 0) m (set ps i (Some o)) (set qs (first_free qs) (Some o))
      (kin_take c.given ps qs kin i (first_free qs) o at free refl) a)
  opens_on (Err f) e a b is = subst (λ b. Goes b m ss) (sym is) (on c m ps qs kin a)

  step_on : (call : Call) → answers (books_next (with_places c qs) m call) (shelf_next (with_places c qs) m call) ss ≡ expected ss
      → (said (with_places c ps) m call ≡ said (with_places c qs) m call) × Leaves (with_places c ps) m call (λ b' m'. Goes b' m' ss)
  step_on opens a =
      let e = open_same c ps qs kin.spare_same in (
        ap opening_said e,
        subst (λ r. (b' : State) → Opens (with_places c ps) r b' → Goes b' m ss) (sym e) (opens_on (open_answer (with_places c qs)) refl a),
      )
  step_on (reads t x) a = (
    ap (λ o. reading_said (read_by c m x o)) (kin.same t),
    subst (λ o. Goes (read_entered (with_places c ps) t x (read_by c m x o)) m ss) (sym (kin.same t))
        (reads_on t x (read_by c m x (sitting qs t)) a),
  )
  step_on (drafts t x v) a = (
    ap (λ o. grant_said (draft_by c x o)) (kin.same t),
    subst (λ o. Goes (if_granted (draft_by c x o) (put_back (with_places c ps) t (with_words (sitting ps t) x v)) (with_places c ps)) m ss)
        (sym (kin.same t)) (drafts_on t x v (draft_by c x (sitting qs t)) a),
  )
  step_on (commits t) a = (
    ap (λ o. grant_said (commit_by c m o)) (kin.same t),
    subst (λ o. Goes (books_after (with_places c ps) m t o (commit_by c m o)) (shelf_after (with_places c ps) m o (commit_by c m o)) ss)
        (sym (kin.same t)) (commits_on t (sitting qs t) (commit_by c m (sitting qs t)) a),
  )
  step_on (stamp x k) a = (refl, on c m ps qs kin a)
  step_on journal a = (refl, on c m ps qs kin a)

pub every_run : (ss : List Step) → Onward ss
every_run [] c m ps qs kin a = tt
every_run ((call ⟼ s) ∷ ss) c m ps qs kin a =
    let (e, rest) = split (said (with_places c qs) m call) s
    (answers (books_next (with_places c qs) m call) (shelf_next (with_places c qs) m call) ss) (expected ss) a in
    let (f, goes) = step_on ss (every_run ss) c m ps qs kin call rest in
    (f ∙ e, goes)
