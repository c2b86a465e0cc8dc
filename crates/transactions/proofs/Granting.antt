-- A granted commit: the shelf holds the account's new versions, and their stamps are the dependence vectors.
use Rattle.std.proofs.Common.{◌≡◌, ℕ, suc, ◌+◌, ◌<◌, ◌≤◌, min, true, false, cond, eqb, ltb, ◌⊎◌, [], ◌∷◌, ◌++◌, length, Some, unwrap_or, sym, refl, ap, ◌∙◌, subst, inl, inr, arith, length-append}
use Rattle.std.specs.List.{slice_get}
use Rattle.std.specs.Option.{option_map}
use Rattle.std.proofs.lemmas.Bool.{cases_Bool, cases_lt, cond-true, cond-false, lt-ltb, eq-eqb, and_from}
use Rattle.stamps.specs.Blank.{blank}
use Rattle.stamps.specs.Counts.{most}
use Rattle.shelf.specs.Meaning.{Version, Meaning, version_at}
use Rattle.shelf.specs.Sound.{Sound}
use Rattle.isolation.specs.Account.{Account, drafted, makes, after_commit}
use Rattle.isolation.specs.Vectors.{greatest}
use Rattle.isolation.specs.Lawful.{Lawful, new_entry, Extends}
use Rattle.isolation.proofs.Facts.{greatest_bound, value_old, value_new}
use Rattle.isolation.proofs.Committing.{newest_drafted, newest_other, writer_old}
use Rattle.transactions.specs.Choosing.{stamps_of}
use Rattle.transactions.specs.Committing.{crowded, new_count, new_version, put_cards}
use Rattle.transactions.specs.Shelved.{Held, Shelved}
use Rattle.transactions.specs.Watched.{told}
use Rattle.transactions.proofs.Places.{nth_front, nth_behind}
use Rattle.transactions.proofs.Putting.{puts_cards, puts_width, drafted_room}
use Rattle.transactions.proofs.Current.{drafted_listed}
use Rattle.transactions.proofs.Extending.{line_drafted, line_other, draft_sure}

module _ (a : Account) (m : Meaning) (s : Shelved a m) (l : Lawful a (stamps_of m)) (t : ℕ) where
  -- the shelf after the puts
  abbrev pub after : Meaning
  after = put_cards m (told a t) a.listed

  version_old : (x k : ℕ) → x < a.listed → k ≤ a.newest x → version_at after x k ≡ version_at m x k
  version_old x k lx le = go (cases_Bool (drafted (a.drafts t) x))
    where
      go : (drafted (a.drafts t) x ≡ true) ⊎ (drafted (a.drafts t) x ≡ false) → version_at after x k ≡ version_at m x k
      go (inl d) =
          ap (λ ls. slice_get ls k) (line_drafted m (told a t) a.listed x lx d)
          ∙ nth_front (m.line x) (new_version m (told a t) x ∷ []) k (omega (arith, s.versions x lx))
      go (inr d) = ap (λ ls. slice_get ls k) (line_other m (told a t) a.listed x d)

  version_new : (x : ℕ) → x < a.listed → drafted (a.drafts t) x ≡ true
      → version_at after x (suc (a.newest x)) ≡ Some (new_version m (told a t) x)
  version_new x lx d =
      let e : suc (a.newest x) ≡ length (m.line x) + 0 = omega (arith, s.versions x lx) in
      ap (λ ls. slice_get ls (suc (a.newest x))) (line_drafted m (told a t) a.listed x lx d)
      ∙ ap (slice_get (m.line x ++ (new_version m (told a t) x ∷ []))) e
      ∙ nth_behind (m.line x) (new_version m (told a t) x ∷ []) 0

  made : (x : ℕ) → drafted (a.drafts t) x ≡ true → makes a t x (suc (a.newest x)) ≡ true
  made x d = and_from (drafted (a.drafts t) x) (eqb (suc (a.newest x)) (suc (a.newest x))) d
      (eq-eqb (suc (a.newest x)) (suc (a.newest x)) refl)

  held_old : (x k : ℕ) → x < a.listed → k ≤ a.newest x → Held a m x k → Held (after_commit a t) after x k
  held_old x k lx le h = record {
    version = h.version;
    at = version_old x k lx le ∙ h.at;
    words = h.words ∙ sym (value_old a t x k le);
    writer = h.writer ∙ sym (writer_old a t x k le);
  }

  held_new : (x : ℕ) → x < a.listed → drafted (a.drafts t) x ≡ true → Held (after_commit a t) after x (suc (a.newest x))
  held_new x lx d = record {
    version = new_version m (told a t) x;
    at = version_new x lx d;
    words = draft_sure (a.drafts t) x blank (a.value x (suc (a.newest x))) d ∙ sym (value_new a t x (suc (a.newest x)) d refl);
    writer = sym (cond-true (makes a t x (suc (a.newest x))) t (a.writer x (suc (a.newest x))) (made x d));
  }

  pub commit_shelved : Shelved (after_commit a t) after
  commit_shelved = record {
    cards = puts_cards m (told a t) a.listed ∙ s.cards;
    wide = subst (λ n. a.listed ≤ n) (sym (puts_width m (told a t) a.listed)) s.wide;
    versions = λ x lx. versions x lx (cases_Bool (drafted (a.drafts t) x));
    holds = λ x k lx le. holds x k lx le (cases_lt (a.newest x) k) (cases_Bool (drafted (a.drafts t) x));
  }
    where
      versions : (x : ℕ) → x < a.listed → (drafted (a.drafts t) x ≡ true) ⊎ (drafted (a.drafts t) x ≡ false)
          → length (after.line x) ≡ suc ((after_commit a t).newest x)
      versions x lx (inl d) =
          let e : length (m.line x ++ (new_version m (told a t) x ∷ [])) ≡ suc (suc (a.newest x))
          = omega (arith, length-append (m.line x) (new_version m (told a t) x ∷ []), s.versions x lx) in
          ap length (line_drafted m (told a t) a.listed x lx d) ∙ e ∙ ap suc (sym (newest_drafted a t x d))
      versions x lx (inr d) =
          ap length (line_other m (told a t) a.listed x d) ∙ s.versions x lx ∙ ap suc (sym (newest_other a t x d))

      holds : (x k : ℕ) → x < a.listed → k ≤ (after_commit a t).newest x → (a.newest x < k) ⊎ (k ≤ a.newest x)
          → (drafted (a.drafts t) x ≡ true) ⊎ (drafted (a.drafts t) x ≡ false) → Held (after_commit a t) after x k
      holds x k lx le (inr q) d = held_old x k lx q (s.holds x k lx q)
      holds x k lx le (inl q) (inl d) =
          let e : suc (a.newest x) ≡ k = omega (arith, newest_drafted a t x d) in
          subst (Held (after_commit a t) after x) e (held_new x lx d)
      holds x k lx le (inl q) (inr d) = absurd (omega (arith, newest_other a t x d))

  -- the new count stops nowhere: the read stamps reach no further than the newest version, and there is room for one more
  pub count_room : Sound m → crowded m (a.drafts t) ≡ false → (y : ℕ) → drafted (a.drafts t) y ≡ true
      → suc (greatest (stamps_of m) (a.reads t) y) ≤ most
  count_room so e y d =
      let ly : y < a.listed = drafted_listed a m s l t y d in
      let lm : y < m.cards = omega (arith, s.cards) in
      omega (arith, greatest_bound a (stamps_of m) l t y ly, so.roomy y lm, s.versions y ly, drafted_room m so (a.drafts t) y lm e d)

  count_free : Sound m → crowded m (a.drafts t) ≡ false → (y : ℕ)
      → new_count m (a.reads t) (a.drafts t) y ≡ new_entry a (stamps_of m) t y
  count_free so e y = go (cases_Bool (drafted (a.drafts t) y))
    where
      go : (drafted (a.drafts t) y ≡ true) ⊎ (drafted (a.drafts t) y ≡ false)
          → new_count m (a.reads t) (a.drafts t) y ≡ new_entry a (stamps_of m) t y
      go (inl d) =
          let n : min (suc (greatest (stamps_of m) (a.reads t) y)) most ≡ suc (greatest (stamps_of m) (a.reads t) y)
          = omega (arith, count_room so e y d) in
          ap (λ k. cond (drafted (a.drafts t) y) k (greatest (stamps_of m) (a.reads t) y)) n
      go (inr d) =
          cond-false (drafted (a.drafts t) y) (min (suc (greatest (stamps_of m) (a.reads t) y)) most) (greatest (stamps_of m) (a.reads t) y) d
          ∙ sym (cond-false (drafted (a.drafts t) y) (suc (greatest (stamps_of m) (a.reads t) y)) (greatest (stamps_of m) (a.reads t) y) d)

  pub commit_extends : Sound m → crowded m (a.drafts t) ≡ false → Extends a (stamps_of m) t (stamps_of after)
  commit_extends so e = record {
    old = λ x k y lx le ly. ap (λ o. unwrap_or (option_map (λ (v : Version). v.stamp y) o) 0) (version_old x k lx le);
    new = λ x y d ly.
        ap (λ o. unwrap_or (option_map (λ (v : Version). v.stamp y) o) 0) (version_new x (drafted_listed a m s l t x d) d)
        ∙ cond-true (ltb y m.width) (new_count m (a.reads t) (a.drafts t) y) 0 (lt-ltb y m.width (omega (arith, s.wide)))
        ∙ count_free so e y;
  }
