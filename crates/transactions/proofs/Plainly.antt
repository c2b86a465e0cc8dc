-- In a lawful run a transaction reads one version of a card, and granted opens are numbered.
use Rattle.std.proofs.Common.{◌≡◌, ℕ, zero, suc, ◌+◌, ◌<◌, ◌≤◌, Bool, true, false, cond, ◌⊎◌, List, [], ◌∷◌, take, Some, Ok, Err, sym, refl, ap, subst, inl, inr, arith}
use Rattle.std.specs.List.{slice_get}
use Rattle.std.proofs.lemmas.Bool.{cases_Bool, cases_lt}
use Rattle.stamps.specs.declared.numbers.CardNo.{CardNo}
use Rattle.stamps.specs.declared.numbers.TxNo.{TxNo}
use Rattle.isolation.specs.Account.{Account, has_read, enter_read, after_read, after_end}
use Rattle.isolation.specs.AccountHistory.{Reads}
use Rattle.isolation.proofs.Lists.{read_some}
use Rattle.isolation.proofs.Reading.{entered_old, entered_new}
use Rattle.transactions.specs.declared.reading.Reading.{Reading as Answer}
use Rattle.transactions.specs.declared.event.Event.{Event}
use Rattle.transactions.specs.declared.event.Event.TheVariants as events
use Rattle.transactions.specs.declared.refusal.Refusal.{Refusal}
use Rattle.transactions.specs.Law.{RightAnswer, ReadLaw}
use Rattle.transactions.specs.Kept.{is_conflict, commit_account}
use Rattle.transactions.specs.Run.{after_event, Step, after_step, StepLaw, LawfulRun}
use Rattle.transactions.specs.Run.Step.{OnShelf, SetUp, ReadElsewhere, CommitElsewhere}
use Rattle.transactions.specs.Plain.{opened_by, opened_in, opens_in, NoSetUp}
use Rattle.transactions.proofs.Places.{none_some, some_same, ok_not_err}

-- a granted read was right
pub granted_right : (a : Account) (t x : ℕ) (p : Answer) → ReadLaw a t x (Ok p) → RightAnswer a t x p
granted_right a t x p l = go (cases_Bool (a.opened t)) (cases_lt x a.listed)
  where
    go : (a.opened t ≡ true) ⊎ (a.opened t ≡ false) → (x < a.listed) ⊎ (a.listed ≤ x) → RightAnswer a t x p
    go (inr e) q = absurd (ok_not_err (l.shut e))
    go (inl o) (inr q) = absurd (ok_not_err (l.unlisted o q))
    go (inl o) (inl q) =
        let (k, e, r) = l.granted o q in
        let z : k ≡ p = cc in
        subst (RightAnswer a t x) z r

-- it is then among the transaction's reads
read_entered : (a : Account) (t x : ℕ) (p : Answer) → RightAnswer a t x p → Reads (after_read a t x p.version.0) t x p.version.0
read_entered a t x p r = go (has_read (a.reads t) x) refl
  where
    go : (h : Bool) → has_read (a.reads t) x ≡ h → Reads (cond h a (enter_read a t x p.version.0)) t x p.version.0
    go true e = let (k, q) = read_some (a.reads t) x e in subst (Reads a t x) (sym (r.again k q)) q
    go false e = entered_new a t x p.version.0

-- where every read stays
refusal_stays : (a : Account) (u : ℕ) (f : Refusal) (t x k : ℕ) → Reads a t x k → Reads (commit_account a u (Err f)) t x k
refusal_stays a u f t x k r = go (is_conflict f)
  where
    go : (h : Bool) → Reads (cond h (after_end a u) a) t x k
    go true = r
    go false = r

reads_stay : (a : Account) (e : Event) (t x k : ℕ) → Reads a t x k → Reads (after_event a e) t x k
reads_stay a (events.Open (Ok n)) t x k r = r
reads_stay a (events.Open (Err f)) t x k r = r
reads_stay a (events.Read u y (Ok p)) t x k r = go (has_read (a.reads u.0) y.0)
  where
    go : (h : Bool) → Reads (cond h a (enter_read a u.0 y.0 p.version.0)) t x k
    go true = r
    go false = entered_old a u.0 y.0 p.version.0 t x k r
reads_stay a (events.Read u y (Err f)) t x k r = r
reads_stay a (events.Draft u y v (Ok p)) t x k r = r
reads_stay a (events.Draft u y v (Err f)) t x k r = r
reads_stay a (events.Commit u (Ok p)) t x k r = r
reads_stay a (events.Commit u (Err f)) t x k r = refusal_stays a u.0 f t x k r
reads_stay a (events.Abandon u (Ok p)) t x k r = r
reads_stay a (events.Abandon u (Err f)) t x k r = r
reads_stay a events.Close t x k r = r

-- but at a granted set-up
step_stays : (a : Account) (s : Step) (t x k : ℕ) → ((n : ℕ) → s ≡ SetUp n (Ok tt) → ⊥) → Reads a t x k → Reads (after_step a s) t x k
step_stays a (OnShelf e) t x k ne r = reads_stay a e t x k r
step_stays a (SetUp n (Ok u)) t x k ne r = absurd (ne n refl)
step_stays a (SetUp n (Err f)) t x k ne r = r
step_stays a (ReadElsewhere u y f) t x k ne r = r
step_stays a (CommitElsewhere u f) t x k ne r = refusal_stays a u.0 f t x k r

-- no set-up among the steps after the first
pub rest : (s : Step) (ss : List Step) → NoSetUp (s ∷ ss) → NoSetUp ss
rest s ss h i n e = h (suc i) n e

pub head_no_set_up : (s : Step) (ss : List Step) → NoSetUp (s ∷ ss) → (n : ℕ) → s ≡ SetUp n (Ok tt) → ⊥
head_no_set_up s ss h n e = h 0 n (ap Some e)

-- a later read answers the version read
later_same : (a : Account) (ss : List Step) (j : ℕ) (t : TxNo) (x : CardNo) (k : ℕ) (q : Answer) → NoSetUp ss → LawfulRun a ss → Reads a t.0 x.0 k
    → slice_get ss j ≡ Some (OnShelf (events.Read t x (Ok q))) → q.version.0 ≡ k
later_same a [] j t x k q h l r e = absurd (none_some e)
later_same a (d ∷ ss) zero t x k q h l r e =
    (granted_right a t.0 x.0 q (subst (StepLaw a) (some_same e) l.0)).again k r
later_same a (d ∷ ss) (suc j) t x k q h l r e =
    later_same (after_step a d) ss j t x k q (rest d ss h) l.1 (step_stays a d t.0 x.0 k (head_no_set_up d ss h) r) e

read_then : (a : Account) (d : Step) (ss : List Step) (j : ℕ) (t : TxNo) (x : CardNo) (p q : Answer) → NoSetUp (d ∷ ss) → LawfulRun a (d ∷ ss)
    → d ≡ OnShelf (events.Read t x (Ok p)) → slice_get ss j ≡ Some (OnShelf (events.Read t x (Ok q))) → p.version.0 ≡ q.version.0
read_then a d ss j t x p q h l e f =
    sym (later_same (after_step a d) ss j t x p.version.0 q (rest d ss h) l.1
    (subst (λ c. Reads (after_step a c) t.0 x.0 p.version.0) (sym e)
    (read_entered a t.0 x.0 p (granted_right a t.0 x.0 p (subst (StepLaw a) e l.0)))) f)

pub same_version : (a : Account) (ss : List Step) (i j : ℕ) (t : TxNo) (x : CardNo) (p q : Answer) → NoSetUp ss → LawfulRun a ss
    → slice_get ss i ≡ Some (OnShelf (events.Read t x (Ok p))) → slice_get ss j ≡ Some (OnShelf (events.Read t x (Ok q)))
    → p.version.0 ≡ q.version.0
same_version a [] i j t x p q h l e f = absurd (none_some e)
same_version a (d ∷ ss) zero zero t x p q h l e f =
    let z : p ≡ q = cc in
    ap (λ (r : Answer). r.version.0) z
same_version a (d ∷ ss) zero (suc j) t x p q h l e f = read_then a d ss j t x p q h l (some_same e) f
same_version a (d ∷ ss) (suc i) zero t x p q h l e f = sym (read_then a d ss i t x q p h l (some_same f) e)
same_version a (d ∷ ss) (suc i) (suc j) t x p q h l e f = same_version (after_step a d) ss i j t x p q (rest d ss h) l.1 e f

-- granted opens are counted
unmoved : (n : ℕ) → n ≡ n + 0
unmoved n = omega arith

one_more : (n : ℕ) → suc n ≡ n + 1
one_more n = omega arith

refusal_given : (a : Account) (u : ℕ) (f : Refusal) → (commit_account a u (Err f)).given ≡ a.given + 0
refusal_given a u f = go (is_conflict f)
  where
    go : (h : Bool) → (cond h (after_end a u) a).given ≡ a.given + 0
    go true = unmoved a.given
    go false = unmoved a.given

given_after : (a : Account) (e : Event) → (after_event a e).given ≡ a.given + opened_by e
given_after a (events.Open (Ok n)) = one_more a.given
given_after a (events.Open (Err f)) = unmoved a.given
given_after a (events.Read u y (Ok p)) = go (has_read (a.reads u.0) y.0)
  where
    go : (h : Bool) → (cond h a (enter_read a u.0 y.0 p.version.0)).given ≡ a.given + 0
    go true = unmoved a.given
    go false = unmoved a.given
given_after a (events.Read u y (Err f)) = unmoved a.given
given_after a (events.Draft u y v (Ok p)) = unmoved a.given
given_after a (events.Draft u y v (Err f)) = unmoved a.given
given_after a (events.Commit u (Ok p)) = unmoved a.given
given_after a (events.Commit u (Err f)) = refusal_given a u.0 f
given_after a (events.Abandon u (Ok p)) = unmoved a.given
given_after a (events.Abandon u (Err f)) = unmoved a.given
given_after a events.Close = unmoved a.given

given_step : (a : Account) (s : Step) → ((n : ℕ) → s ≡ SetUp n (Ok tt) → ⊥) → (after_step a s).given ≡ a.given + opened_in s
given_step a (OnShelf e) ne = given_after a e
given_step a (SetUp n (Ok u)) ne = absurd (ne n refl)
given_step a (SetUp n (Err f)) ne = unmoved a.given
given_step a (ReadElsewhere t x f) ne = unmoved a.given
given_step a (CommitElsewhere t f) ne = refusal_given a t.0 f

pub numbered : (a : Account) (ss : List Step) (i : ℕ) (n : TxNo) → NoSetUp ss → LawfulRun a ss
    → slice_get ss i ≡ Some (OnShelf (events.Open (Ok n))) → n.0 ≡ suc (a.given + opens_in (take i ss))
numbered a [] i n h l e = absurd (none_some e)
numbered a (d ∷ ss) zero n h l e =
    let o : StepLaw a (OnShelf (events.Open (Ok n))) = subst (StepLaw a) (some_same e) l.0 in
    let q : n.0 ≡ suc a.given = (o.next n.0 refl).0 in
    omega arith
numbered a (d ∷ ss) (suc i) n h l e =
    omega (arith, numbered (after_step a d) ss i n (rest d ss h) l.1 e, given_step a d (head_no_set_up d ss h))
