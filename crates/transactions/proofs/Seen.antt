-- What a watched shelf answers, in the account's words.
use Rattle.std.proofs.Common.{◌≡◌, ℕ, suc, pred, ◌<◌, ◌≤◌, true, false, not, ◌||◌, eqb, is_some, unwrap_or, sym, ap, ◌∙◌, subst}
use Rattle.std.specs.Option.{option_map}
use Rattle.std.proofs.lemmas.Bool.{eq-eqb, or_from, not_from_true}
use Rattle.stamps.specs.Blank.{blank}
use Rattle.shelf.specs.Meaning.{Version, Meaning, version_at, newest}
use Rattle.isolation.specs.Account.{Account}
use Rattle.isolation.specs.Lawful.{Lawful}
use Rattle.isolation.proofs.ReadLaw.{lawful_consistent, lawful_committed}
use Rattle.isolation.proofs.Unique.{vectors_alike}
use Rattle.transactions.specs.State.{State}
use Rattle.transactions.specs.Choosing.{stamps_of, value_at, lacks, other_shelf}
use Rattle.transactions.specs.Law.{Snapshot}
use Rattle.transactions.specs.Shelved.{Held, Shelved, Stamped}
use Rattle.transactions.specs.Watched.{Watched}
use Rattle.transactions.proofs.Choosing.{lacks_none}

-- a lawful account's snapshots
pub lawful_snapshot : (a : Account) (m : Meaning) → Lawful a (stamps_of m) → (t : ℕ) → Snapshot a t
lawful_snapshot a m l t = record {
  committed = λ x k r. let (p, q) = lawful_committed a (stamps_of m) l t x k r in record { exists = p; committed = q };
  consistent = lawful_consistent a (stamps_of m) l t;
}

module _ (a : Account) (m : Meaning) (s : Shelved a m) where
  pub newest_is : (x : ℕ) → x < a.listed → newest m x ≡ a.newest x
  newest_is x lx = ap pred (s.versions x lx)

  pub value_is : (x k : ℕ) → x < a.listed → k ≤ a.newest x → value_at m x k ≡ a.value x k
  value_is x k lx le =
      let h : Held a m x k = s.holds x k lx le in
      ap (λ o. unwrap_or (option_map (λ (v : Version). v.value) o) blank) h.at ∙ h.words

  pub version_there : (x k : ℕ) → x < a.listed → k ≤ a.newest x → is_some (version_at m x k) ≡ true
  version_there x k lx le = ap is_some (s.holds x k lx le).at

pub same_shelf : (a : Account) (m : Meaning) (b : State) → Watched a m b → (t : ℕ) → other_shelf b m (a.reads t) ≡ false
same_shelf a m b w t =
    or_from (not (eqb m.cards b.cards)) (not (eqb m.width b.width) || lacks m (a.reads t))
    (not_from_true (eqb m.cards b.cards) (eq-eqb m.cards b.cards (w.shelved.cards ∙ sym w.cards)))
    (or_from (not (eqb m.width b.width)) (lacks m (a.reads t))
    (not_from_true (eqb m.width b.width) (eq-eqb m.width b.width (sym w.width)))
    (lacks_none m (a.reads t) (λ x k r.
    version_there a m w.shelved x k (w.lawful.meant.read_listed t x k r) (w.lawful.kept.read_exists t x k r))))

-- the shelf's stamps are the dependence vectors
pub watched_stamped : (a : Account) (m : Meaning) (b : State) → Watched a m b → Stamped a m
watched_stamped a m b w = record {
  there = version_there a m w.shelved;
  solves = w.lawful.vectors;
  alone = vectors_alike a (stamps_of m) w.lawful;
}

-- accounts with the same cards and versions
pub record SameShelf (a c : Account) : Type 0 where
  pub listed : c.listed ≡ a.listed
  pub newest : c.newest ≡ a.newest
  pub writer : c.writer ≡ a.writer
  pub value : c.value ≡ a.value

pub shelved_same : (a c : Account) (m : Meaning) → SameShelf a c → Shelved a m → Shelved c m
shelved_same a c m e s = record {
  cards = s.cards ∙ sym e.listed;
  wide = subst (λ n. n ≤ m.width) (sym e.listed) s.wide;
  versions = λ x lx. s.versions x (below x lx) ∙ ap (λ (f : ℕ → ℕ). suc (f x)) (sym e.newest);
  holds = λ x k lx le. held x k (s.holds x k (below x lx) (subst (λ (f : ℕ → ℕ). k ≤ f x) e.newest le));
}
  where
    below : (x : ℕ) → x < c.listed → x < a.listed
    below x lx = subst (λ n. x < n) e.listed lx

    held : (x k : ℕ) → Held a m x k → Held c m x k
    held x k h = record {
      version = h.version;
      at = h.at;
      words = h.words ∙ ap (λ f. f x k) (sym e.value);
      writer = h.writer ∙ ap (λ (f : ℕ → ℕ → ℕ). f x k) (sym e.writer);
    }
