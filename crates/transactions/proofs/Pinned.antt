-- The law leaves a read, a draft and an abandon one answer.
use Rattle.std.proofs.Common.{◌≡◌, ℕ, ◌<◌, ◌≤◌, true, false, ◌⊎◌, length, Ok, Result, sym, ap, ◌∙◌, inl, inr}
use Rattle.std.proofs.lemmas.Bool.{cases_Bool, cases_lt, cases_order}
use Rattle.isolation.specs.Account.{Account, has_read, drafted, draft_of}
use Rattle.isolation.proofs.Lists.{read_some}
use Rattle.transactions.specs.declared.reading.Reading.{Reading as Answer}
use Rattle.transactions.specs.declared.refusal.Refusal.{Refusal}
use Rattle.transactions.specs.State.{most_drafts}
use Rattle.transactions.specs.Law.{FirstRead, RightAnswer, ReadLaw, DraftLaw, EndLaw}

-- two right first reads are of one version: the newer would break the snapshot that the other keeps
one_first : (a : Account) (t x n k : ℕ) → FirstRead a t x n → FirstRead a t x k → n ≡ k
one_first a t x n k p q = go (cases_order n k)
  where
    go : (n ≡ k) ⊎ ((n < k) ⊎ (k < n)) → n ≡ k
    go (inl e) = e
    go (inr (inl lt)) = absurd (p.newest k lt q.committed q.keeps.consistent)
    go (inr (inr lt)) = absurd (q.newest n lt p.committed p.keeps.consistent)

one_answer : (a : Account) (t x : ℕ) (p q : Answer) → RightAnswer a t x p → RightAnswer a t x q → p ≡ q
one_answer a t x p q r s = λ z. record { version = record { 0 = version z }; value = value z }
  where
    version_of : (has_read (a.reads t) x ≡ true) ⊎ (has_read (a.reads t) x ≡ false) → p.version.0 ≡ q.version.0
    version_of (inl h) = let (k, e) = read_some (a.reads t) x h in r.again k e ∙ sym (s.again k e)
    version_of (inr h) = one_first a t x p.version.0 q.version.0 (r.first h) (s.first h)

    version : p.version.0 ≡ q.version.0
    version = version_of (cases_Bool (has_read (a.reads t) x))

    value : p.value ≡ q.value
    value = r.words ∙ ap (λ k. draft_of (a.drafts t) x (a.value x k)) version ∙ sym s.words

pub reads_pinned : (a : Account) (t x : ℕ) (p q : Result Answer Refusal) → ReadLaw a t x p → ReadLaw a t x q → p ≡ q
reads_pinned a t x p q r s = go (cases_Bool (a.opened t)) (cases_lt x a.listed)
  where
    go : (a.opened t ≡ true) ⊎ (a.opened t ≡ false) → (x < a.listed) ⊎ (a.listed ≤ x) → p ≡ q
    go (inr e) l = r.shut e ∙ sym (s.shut e)
    go (inl o) (inr le) = r.unlisted o le ∙ sym (s.unlisted o le)
    go (inl o) (inl lt) =
        let (u, e, f) = r.granted o lt in
        let (v, g, h) = s.granted o lt in
        e ∙ ap Ok (one_answer a t x u v f h) ∙ sym g

pub drafts_pinned : (a : Account) (t x : ℕ) (p q : Result (Unit {0}) Refusal) → DraftLaw a t x p → DraftLaw a t x q → p ≡ q
drafts_pinned a t x p q r s =
    go (cases_Bool (a.opened t)) (cases_lt x a.listed) (cases_Bool (has_read (a.reads t) x)) (cases_Bool (drafted (a.drafts t) x))
    (cases_lt (length (a.drafts t)) most_drafts)
  where
    go : (a.opened t ≡ true) ⊎ (a.opened t ≡ false) → (x < a.listed) ⊎ (a.listed ≤ x)
        → (has_read (a.reads t) x ≡ true) ⊎ (has_read (a.reads t) x ≡ false) → (drafted (a.drafts t) x ≡ true) ⊎ (drafted (a.drafts t) x ≡ false)
        → (length (a.drafts t) < most_drafts) ⊎ (most_drafts ≤ length (a.drafts t)) → p ≡ q
    go (inr e) l h d n = r.shut e ∙ sym (s.shut e)
    go (inl o) (inr le) h d n = r.unlisted o le ∙ sym (s.unlisted o le)
    go (inl o) (inl lt) (inr h) d n = r.unread o lt h ∙ sym (s.unread o lt h)
    go (inl o) (inl lt) (inl h) (inl d) n = r.again o d ∙ sym (s.again o d)
    go (inl o) (inl lt) (inl h) (inr d) (inl n) = r.granted o h n ∙ sym (s.granted o h n)
    go (inl o) (inl lt) (inl h) (inr d) (inr n) = r.full o h d n ∙ sym (s.full o h d n)

pub ends_pinned : (a : Account) (t : ℕ) (p q : Result (Unit {0}) Refusal) → EndLaw a t p → EndLaw a t q → p ≡ q
ends_pinned a t p q r s = go (cases_Bool (a.opened t))
  where
    go : (a.opened t ≡ true) ⊎ (a.opened t ≡ false) → p ≡ q
    go (inl o) = r.granted o ∙ sym (s.granted o)
    go (inr e) = r.shut e ∙ sym (s.shut e)
