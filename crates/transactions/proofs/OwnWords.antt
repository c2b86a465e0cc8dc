-- In a lawful run a read answers the transaction's own last draft.
use Rattle.std.proofs.Common.{◌≡◌, ℕ, zero, suc, ◌<◌, Bool, true, false, cond, ◌⊎◌, List, [], ◌∷◌, Some, Ok, Err, sym, refl, ap, ◌∙◌, subst, inl, inr, arith}
use Rattle.std.specs.List.{slice_get}
use Rattle.std.proofs.lemmas.Bool.{cases_eq}
use Rattle.stamps.specs.declared.numbers.CardNo.{CardNo}
use Rattle.stamps.specs.declared.numbers.TxNo.{TxNo}
use Rattle.stamps.specs.declared.value.Value.{Value}
use Rattle.isolation.specs.Account.{Account, has_read, draft_of, with_draft, enter_read, after_draft, after_end}
use Rattle.isolation.proofs.Lists.{at_one_here, at_one_there}
use Rattle.isolation.proofs.Drafts.{draft_words, draft_others}
use Rattle.transactions.specs.declared.reading.Reading.{Reading as Answer}
use Rattle.transactions.specs.declared.event.Event.{Event}
use Rattle.transactions.specs.declared.event.Event.TheVariants as events
use Rattle.transactions.specs.declared.refusal.Refusal.{Refusal}
use Rattle.transactions.specs.Kept.{is_conflict, commit_account}
use Rattle.transactions.specs.Run.{after_event, Step, after_step, StepLaw, LawfulRun}
use Rattle.transactions.specs.Run.Step.{OnShelf, SetUp, ReadElsewhere, CommitElsewhere}
use Rattle.transactions.specs.Plain.{NoSetUp}
use Rattle.transactions.proofs.Places.{none_some, some_same}
use Rattle.transactions.proofs.Plainly.{granted_right, rest, head_no_set_up}

-- t has drafted v for card x
abbrev Drafts : Account → (t x : ℕ) → Value → Type 0
Drafts a t x v = (d : Value) → draft_of (a.drafts t) x d ≡ v

drafted_so : (a : Account) (t x : ℕ) (v : Value) → Drafts (after_draft a t x v) t x v
drafted_so a t x v d =
    ap (λ ds. draft_of ds x d) (at_one_here a.drafts t (with_draft (a.drafts t) x v) t refl) ∙ draft_words x v (a.drafts t) d

-- a granted draft by another transaction, or for another card, leaves it
draft_leaves : (a : Account) (u y : ℕ) (w : Value) (t x : ℕ) (v : Value) → (u ≡ t → y ≡ x → ⊥) → Drafts a t x v → Drafts (after_draft a u y w) t x v
draft_leaves a u y w t x v ne h d = go (cases_eq t u) (cases_eq y x)
  where
    go : (t ≡ u) ⊎ (t ≡ u → ⊥) → (y ≡ x) ⊎ (y ≡ x → ⊥) → draft_of ((after_draft a u y w).drafts t) x d ≡ v
    go (inl e) (inl q) = absurd (ne (sym e) q)
    go (inl e) (inr q) =
        ap (λ ds. draft_of ds x d) (at_one_here a.drafts u (with_draft (a.drafts u) y w) t e)
        ∙ draft_others y w (a.drafts u) x d q
        ∙ subst (λ z. draft_of (a.drafts z) x d ≡ v) e (h d)
    go (inr e) q = ap (λ ds. draft_of ds x d) (at_one_there a.drafts u (with_draft (a.drafts u) y w) t e) ∙ h d

refusal_stays : (a : Account) (u : ℕ) (f : Refusal) (t : TxNo) (x : CardNo) (v : Value) → Drafts a t.0 x.0 v
    → Drafts (commit_account a u (Err f)) t.0 x.0 v
refusal_stays a u f t x v h = go (is_conflict f)
  where
    go : (b : Bool) → Drafts (cond b (after_end a u) a) t.0 x.0 v
    go true = h
    go false = h

-- and so does any other call
words_stay : (a : Account) (e : Event) (t : TxNo) (x : CardNo) (v : Value) → ((u : Value) → e ≡ events.Draft t x u (Ok tt) → ⊥)
    → Drafts a t.0 x.0 v → Drafts (after_event a e) t.0 x.0 v
words_stay a (events.Open (Ok n)) t x v ne h = h
words_stay a (events.Open (Err f)) t x v ne h = h
words_stay a (events.Read u y (Ok p)) t x v ne h = go (has_read (a.reads u.0) y.0)
  where
    go : (b : Bool) → Drafts (cond b a (enter_read a u.0 y.0 p.version.0)) t.0 x.0 v
    go true = h
    go false = h
words_stay a (events.Read u y (Err f)) t x v ne h = h
words_stay a (events.Draft u y w (Ok p)) t x v ne h =
    draft_leaves a u.0 y.0 w t.0 x.0 v
    (λ q r. ne w (λ z. events.Draft (record { 0 = q z }) (record { 0 = r z }) w (Ok tt))) h
words_stay a (events.Draft u y w (Err f)) t x v ne h = h
words_stay a (events.Commit u (Ok p)) t x v ne h = h
words_stay a (events.Commit u (Err f)) t x v ne h = refusal_stays a u.0 f t x v h
words_stay a (events.Abandon u (Ok p)) t x v ne h = h
words_stay a (events.Abandon u (Err f)) t x v ne h = h
words_stay a events.Close t x v ne h = h

step_words : (a : Account) (s : Step) (t : TxNo) (x : CardNo) (v : Value) → ((n : ℕ) → s ≡ SetUp n (Ok tt) → ⊥)
    → ((u : Value) → s ≡ OnShelf (events.Draft t x u (Ok tt)) → ⊥) → Drafts a t.0 x.0 v → Drafts (after_step a s) t.0 x.0 v
step_words a (OnShelf e) t x v since ne h = words_stay a e t x v (λ u p. ne u (ap OnShelf p)) h
step_words a (SetUp n (Ok u)) t x v since ne h = absurd (since n refl)
step_words a (SetUp n (Err f)) t x v since ne h = h
step_words a (ReadElsewhere u y f) t x v since ne h = h
step_words a (CommitElsewhere u f) t x v since ne h = refusal_stays a u.0 f t x v h

-- so the next reads answer it
later_words : (a : Account) (ss : List Step) (j : ℕ) (t : TxNo) (x : CardNo) (v : Value) (q : Answer) → NoSetUp ss → LawfulRun a ss
    → Drafts a t.0 x.0 v → slice_get ss j ≡ Some (OnShelf (events.Read t x (Ok q)))
    → ((k : ℕ) (u : Value) → k < j → slice_get ss k ≡ Some (OnShelf (events.Draft t x u (Ok tt))) → ⊥) → q.value ≡ v
later_words a [] j t x v q since l h e none = absurd (none_some e)
later_words a (d ∷ ss) zero t x v q since l h e none =
    (granted_right a t.0 x.0 q (subst (StepLaw a) (some_same e) l.0)).words ∙ h (a.value x.0 q.version.0)
later_words a (d ∷ ss) (suc j) t x v q since l h e none =
    later_words (after_step a d) ss j t x v q (rest d ss since) l.1
    (step_words a d t x v (head_no_set_up d ss since) (λ u p. none zero u (omega arith) (ap Some p)) h) e
    (λ k u lt p. none (suc k) u (omega arith) p)

pub own_words : (a : Account) (ss : List Step) (i j : ℕ) (t : TxNo) (x : CardNo) (v : Value) (q : Answer) → NoSetUp ss → LawfulRun a ss
    → slice_get ss i ≡ Some (OnShelf (events.Draft t x v (Ok tt))) → slice_get ss j ≡ Some (OnShelf (events.Read t x (Ok q))) → i < j
    → ((k : ℕ) (u : Value) → i < k → k < j → slice_get ss k ≡ Some (OnShelf (events.Draft t x u (Ok tt))) → ⊥) → q.value ≡ v
own_words a [] i j t x v q since l e f lt none = absurd (none_some e)
own_words a (d ∷ ss) zero zero t x v q since l e f lt none = absurd (omega arith)
own_words a (d ∷ ss) zero (suc j) t x v q since l e f lt none =
    later_words (after_step a d) ss j t x v q (rest d ss since) l.1
    (subst (λ c. Drafts (after_step a c) t.0 x.0 v) (sym (some_same e)) (drafted_so a t.0 x.0 v)) f
    (λ k u le p. none (suc k) u (omega arith) (omega arith) p)
own_words a (d ∷ ss) (suc i) zero t x v q since l e f lt none = absurd (omega arith)
own_words a (d ∷ ss) (suc i) (suc j) t x v q since l e f lt none =
    own_words (after_step a d) ss i j t x v q (rest d ss since) l.1 e f (omega arith)
    (λ k u le lk p. none (suc k) u (omega arith) (omega arith) p)
