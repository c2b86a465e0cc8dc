-- Readings and drafts as lists of cards. Assumes nothing.
use Rattle.std.proofs.Common.{◌≡◌, ℕ, zero, suc, ◌<◌, Bool, true, false, cond, ◌||◌, eqb, List, [], ◌∷◌, ◌++◌, map, length, get_or, set, is_some, Some, None, Option, sym, refl, ap, ◌∙◌, arith}
use Rattle.std.specs.List.{list_any, slice_get}
use Rattle.std.specs.Option.{option_map, option_and_then, unwrap_or}
use Rattle.std.proofs.lemmas.List.{length-map, get_or-map}
use Rattle.std.proofs.lemmas.Option.{slice_get-get_or}
use Rattle.std.proofs.lemmas.Bool.{eq-eqb, eqb-true, or_parts, or_from, or_left, or_right, cond-true, cond-false, false≢true}
use Rattle.stamps.specs.declared.numbers.VersionNo.{VersionNo}
use Rattle.stamps.specs.declared.value.Value.{Value}
use Rattle.isolation.specs.Account.{Reading, Draft, has_read, drafted, draft_of, with_draft}
use Rattle.transactions.specs.Choosing.{version_read}
use Rattle.entries.specs.Numbers.{member, apart, last_of}
use Rattle.entries.specs.declared.entries.ReadEntry.{ReadEntry}
use Rattle.entries.specs.declared.entries.DraftEntry.{DraftEntry}
use Rattle.entries.specs.Contents.{reading, drafting, read_cards, draft_cards}
use Rattle.entries.proofs.Last.{last_at_holds, last_at_none}
use Rattle.transactions.specs.State.{last_at}
use Rattle.entries.proofs.Apart.{apart_parts, apart_first}

pub has_read_member : (rs : List Reading) (x : ℕ) → has_read rs x ≡ member (read_cards rs) x
has_read_member [] x = refl
has_read_member (r ∷ rs) x = ap (λ b. eqb r.card x || b) (has_read_member rs x)

pub drafted_member : (ds : List Draft) (x : ℕ) → drafted ds x ≡ member (draft_cards ds) x
drafted_member [] x = refl
drafted_member (d ∷ ds) x = ap (λ b. eqb d.card x || b) (drafted_member ds x)

-- a card's first draft
pub with_draft_new : (ds : List Draft) (x : ℕ) (v : Value) → drafted ds x ≡ false → with_draft ds x v ≡ ds ++ (record { card = x; value = v } ∷ [])
with_draft_new [] x v out = refl
with_draft_new (d ∷ ds) x v out =
    let p = or_parts (eqb d.card x) (drafted ds x) out in
    cond-false (eqb d.card x) (record { card = x; value = v } ∷ ds) (d ∷ with_draft ds x v) p.0 ∙ ap (λ l. d ∷ l) (with_draft_new ds x v p.1)

-- entry i of lists with no card twice is the one that a card's number finds
pub with_draft_set : (n : ℕ) (ds : List Draft) (i x : ℕ) (v : Value) → apart n (draft_cards ds) ≡ true → i < length ds → get_or (draft_cards ds) i 0 ≡ x →
    with_draft ds x v ≡ set ds i (record { card = x; value = v })
with_draft_set n [] i x v ok h e = absurd (omega arith)
with_draft_set n (d ∷ ds) zero x v ok h e =
    cond-true (eqb d.card x) (record { card = x; value = v } ∷ ds) (d ∷ with_draft ds x v) (eq-eqb d.card x e)
with_draft_set n (d ∷ ds) (suc i) x v ok h e =
    let ne : eqb d.card x ≡ false = ap (eqb d.card) (sym e) ∙ apart_first n d.card (draft_cards ds) i 0 ok (simp length-map (omega arith)) in
    cond-false (eqb d.card x) (record { card = x; value = v } ∷ ds) (d ∷ with_draft ds x v) ne
    ∙ ap (λ l. d ∷ l) (with_draft_set n ds i x v (apart_parts n d.card (draft_cards ds) ok).2 (omega arith) e)

pub draft_of_at : (n : ℕ) (ds : List Draft) (i : ℕ) (x : ℕ) (v : Value) (d0 : Draft) → apart n (draft_cards ds) ≡ true → i < length ds →
    get_or (draft_cards ds) i 0 ≡ x → draft_of ds x v ≡ (get_or ds i d0).value
draft_of_at n [] i x v d0 ok h e = absurd (omega arith)
draft_of_at n (d ∷ ds) zero x v d0 ok h e = cond-true (eqb d.card x) d.value (draft_of ds x v) (eq-eqb d.card x e)
draft_of_at n (d ∷ ds) (suc i) x v d0 ok h e =
    let ne : eqb d.card x ≡ false = ap (eqb d.card) (sym e) ∙ apart_first n d.card (draft_cards ds) i 0 ok (simp length-map (omega arith)) in
    cond-false (eqb d.card x) d.value (draft_of ds x v) ne
    ∙ draft_of_at n ds i x v d0 (apart_parts n d.card (draft_cards ds) ok).2 (omega arith) e

pub version_read_at : (n : ℕ) (rs : List Reading) (i : ℕ) (x : ℕ) (r0 : Reading) → apart n (read_cards rs) ≡ true → i < length rs →
    get_or (read_cards rs) i 0 ≡ x → version_read rs x ≡ Some (get_or rs i r0).version
version_read_at n [] i x r0 ok h e = absurd (omega arith)
version_read_at n (r ∷ rs) zero x r0 ok h e = cond-true (eqb r.card x) (Some r.version) (version_read rs x) (eq-eqb r.card x e)
version_read_at n (r ∷ rs) (suc i) x r0 ok h e =
    let ne : eqb r.card x ≡ false = ap (eqb r.card) (sym e) ∙ apart_first n r.card (read_cards rs) i 0 ok (simp length-map (omega arith)) in
    cond-false (eqb r.card x) (Some r.version) (version_read rs x) ne
    ∙ version_read_at n rs i x r0 (apart_parts n r.card (read_cards rs) ok).2 (omega arith) e

pub draft_of_none : (ds : List Draft) (x : ℕ) (v : Value) → drafted ds x ≡ false → draft_of ds x v ≡ v
draft_of_none [] x v out = refl
draft_of_none (d ∷ ds) x v out =
    let p = or_parts (eqb d.card x) (drafted ds x) out in
    cond-false (eqb d.card x) d.value (draft_of ds x v) p.0 ∙ draft_of_none ds x v p.1

pub version_read_none : (rs : List Reading) (x : ℕ) → has_read rs x ≡ false → version_read rs x ≡ None
version_read_none [] x out = refl
version_read_none (r ∷ rs) x out =
    let p = or_parts (eqb r.card x) (has_read rs x) out in
    cond-false (eqb r.card x) (Some r.version) (version_read rs x) p.0 ∙ version_read_none rs x p.1

-- what the search for a card's number finds among entries
pub drafting_cards : (es : List DraftEntry) → draft_cards (map drafting es) ≡ map (λ e. e.card.0) es
drafting_cards [] = refl
drafting_cards (e ∷ es) = ap (λ l. e.card.0 ∷ l) (drafting_cards es)

pub reading_cards : (es : List ReadEntry) → read_cards (map reading es) ≡ map (λ e. e.card.0) es
reading_cards [] = refl
reading_cards (e ∷ es) = ap (λ l. e.card.0 ∷ l) (reading_cards es)

pub drafted_any : (es : List DraftEntry) (x : ℕ) → list_any (λ e. eqb e.card.0 x) es ≡ drafted (map drafting es) x
drafted_any [] x = refl
drafted_any (e ∷ es) x = ap (λ b. eqb e.card.0 x || b) (drafted_any es x)

pub read_any : (es : List ReadEntry) (x : ℕ) → list_any (λ e. eqb e.card.0 x) es ≡ has_read (map reading es) x
read_any [] x = refl
read_any (e ∷ es) x = ap (λ b. eqb e.card.0 x || b) (read_any es x)

-- over any kind of entry: the place found is that of the card
pub found_card : {X : Type 0} (card : X → ℕ) (es : List X) (x j : ℕ) (d : X) → last_at (λ e. eqb (card e) x) es ≡ Some j →
    (j < length es) × (get_or (map card es) j 0 ≡ x)
found_card card es x j d e =
    let h = last_at_holds (λ y. eqb (card y) x) es j d e in
    (h.0, get_or-map card es j d 0 h.0 ∙ eqb-true (card (get_or es j d)) x h.1)

-- what the entry found says
pub found_version : (n : ℕ) (es : List ReadEntry) (x j : ℕ) (d : ReadEntry) → apart n (read_cards (map reading es)) ≡ true →
    last_at (λ e. eqb e.card.0 x) es ≡ Some j → version_read (map reading es) x ≡ Some (get_or es j d).version.0
found_version n es x j d ok e =
    let f = found_card (λ y. y.card.0) es x j d e in
    version_read_at n (map reading es) j x (reading d) ok (simp length-map f.0) (ap (λ l. get_or l j 0) (reading_cards es) ∙ f.1)
    ∙ ap (λ r. Some r.version) (get_or-map reading es j d (reading d) f.0)

pub found_words : (n : ℕ) (es : List DraftEntry) (x j : ℕ) (d : DraftEntry) (v : Value) → apart n (draft_cards (map drafting es)) ≡ true →
    last_at (λ e. eqb e.card.0 x) es ≡ Some j → draft_of (map drafting es) x v ≡ (get_or es j d).value
found_words n es x j d v ok e =
    let f = found_card (λ y. y.card.0) es x j d e in
    draft_of_at n (map drafting es) j x v (drafting d) ok (simp length-map f.0) (ap (λ l. get_or l j 0) (drafting_cards es) ∙ f.1)
    ∙ ap (λ r. r.value) (get_or-map drafting es j d (drafting d) f.0)

-- what the last entry of a card says
pub last_version : (n : ℕ) (es : List ReadEntry) (x : ℕ) → apart n (read_cards (map reading es)) ≡ true →
    option_map (λ e. e.version.0) (last_of (λ e. eqb e.card.0 x) es) ≡ version_read (map reading es) x
last_version n es x ok = go (last_at (λ e. eqb e.card.0 x) es) refl
  where
    none : ReadEntry
    none = record { card = record { 0 = 0 }; version = record { 0 = 0 } }

    go : (o : Option ℕ) → last_at (λ e. eqb e.card.0 x) es ≡ o → option_map (λ e. e.version.0) (option_and_then (slice_get es) o) ≡ version_read (map reading es) x
    go None e = sym (version_read_none (map reading es) x (sym (read_any es x) ∙ last_at_none (λ y. eqb y.card.0 x) es e))
    go (Some j) e =
        ap (option_map (λ y. y.version.0)) (slice_get-get_or es j none (found_card (λ y. y.card.0) es x j none e).0) ∙ sym (found_version n es x j none ok e)

pub last_words : (n : ℕ) (es : List DraftEntry) (x : ℕ) (v : Value) → apart n (draft_cards (map drafting es)) ≡ true →
    unwrap_or (option_map (λ e. e.value) (last_of (λ e. eqb e.card.0 x) es)) v ≡ draft_of (map drafting es) x v
last_words n es x v ok = go (last_at (λ e. eqb e.card.0 x) es) refl
  where
    none : DraftEntry
    none = record { card = record { 0 = 0 }; value = v }

    go : (o : Option ℕ) → last_at (λ e. eqb e.card.0 x) es ≡ o → unwrap_or (option_map (λ e. e.value) (option_and_then (slice_get es) o)) v ≡ draft_of (map drafting es) x v
    go None e = sym (draft_of_none (map drafting es) x v (sym (drafted_any es x) ∙ last_at_none (λ y. eqb y.card.0 x) es e))
    go (Some j) e =
        ap (λ o. unwrap_or (option_map (λ y. y.value) o) v) (slice_get-get_or es j none (found_card (λ y. y.card.0) es x j none e).0)
        ∙ sym (found_words n es x j none v ok e)

pub version_read_has : (rs : List Reading) (x k : ℕ) → version_read rs x ≡ Some k → has_read rs x ≡ true
version_read_has [] x k e = let z : ◌≡◌ {A = ℕ} 0 1 = cc in absurd (omega arith)
version_read_has (r ∷ rs) x k e = go (eqb r.card x) refl (version_read_has rs x k) e
  where
    go : (b : Bool) → eqb r.card x ≡ b → (version_read rs x ≡ Some k → has_read rs x ≡ true) → cond b (Some r.version) (version_read rs x) ≡ Some k →
        (eqb r.card x || has_read rs x) ≡ true
    go true t rest e = or_left (eqb r.card x) (has_read rs x) t
    go false t rest e = or_right (eqb r.card x) (has_read rs x) (rest e)

pub version_read_lacks : (rs : List Reading) (x : ℕ) → version_read rs x ≡ None → has_read rs x ≡ false
version_read_lacks [] x e = refl
version_read_lacks (r ∷ rs) x e = go (eqb r.card x) refl (version_read_lacks rs x) e
  where
    go : (b : Bool) → eqb r.card x ≡ b → (version_read rs x ≡ None → has_read rs x ≡ false) → cond b (Some r.version) (version_read rs x) ≡ None →
        (eqb r.card x || has_read rs x) ≡ false
    go true t rest e = let z : ◌≡◌ {A = ℕ} 0 1 = cc in absurd (omega arith)
    go false t rest e = or_from (eqb r.card x) (has_read rs x) t (rest e)

-- a card is among those read, and those drafted, where something is found of it
pub read_found : (rs : List Reading) (x : ℕ) (r : Option VersionNo) → option_map (λ v. v.0) r ≡ version_read rs x → has_read rs x ≡ is_some r
read_found rs x None e = version_read_lacks rs x (sym e)
read_found rs x (Some v) e = version_read_has rs x v.0 (sym e)

draft_of_there : (ds : List Draft) (x : ℕ) → drafted ds x ≡ true → (v w : Value) → draft_of ds x v ≡ draft_of ds x w
draft_of_there [] x e v w = absurd (false≢true e)
draft_of_there (d ∷ ds) x e v w = go (eqb d.card x) (draft_of_there ds x) e
  where
    go : (b : Bool) → (drafted ds x ≡ true → (v w : Value) → draft_of ds x v ≡ draft_of ds x w) → (b || drafted ds x) ≡ true →
        cond b d.value (draft_of ds x v) ≡ cond b d.value (draft_of ds x w)
    go true rest e = refl
    go false rest e = rest e v w

-- no words are both these
abbrev words : ℕ → Value
words n = record { first = n; second = 0 }

differ : words 0 ≡ words 1 → ⊥
differ e = let n : ◌≡◌ {A = ℕ} 0 1 = ap (λ (v : Value). v.first) e in omega arith

pub draft_found : (ds : List Draft) (x : ℕ) (r : Option Value) → ((v : Value) → unwrap_or r v ≡ draft_of ds x v) → drafted ds x ≡ is_some r
draft_found ds x r e = go r (drafted ds x) refl e
  where
    go : (r : Option Value) (b : Bool) → drafted ds x ≡ b → ((v : Value) → unwrap_or r v ≡ draft_of ds x v) → b ≡ is_some r
    go None true t e = absurd (differ (e (words 0) ∙ draft_of_there ds x t (words 0) (words 1) ∙ sym (e (words 1))))
    go None false t e = refl
    go (Some u) true t e = refl
    go (Some u) false t e = absurd (differ (sym (e (words 0) ∙ draft_of_none ds x (words 0) t) ∙ e (words 1) ∙ draft_of_none ds x (words 1) t))
