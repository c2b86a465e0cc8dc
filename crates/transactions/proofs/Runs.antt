-- A lawful run, one step longer.
use Rattle.std.proofs.Common.{◌≡◌, ℕ, List, [], ◌∷◌, ◌++◌, Ok, Err, Result, sym, refl, ap, ◌∙◌, subst}
use Rattle.shelf.specs.Meaning.{Meaning}
use Rattle.isolation.specs.Account.{Account, fresh}
use Rattle.shelf.specs.Sound.{Sound}
use Rattle.transactions.specs.declared.event.Event.TheVariants as events
use Rattle.transactions.specs.declared.refusal.Refusal.{Refusal}
use Rattle.transactions.specs.State.{State}
use Rattle.transactions.specs.Calls.{set_up_answer, after_set_up}
use Rattle.transactions.specs.Law.{OpenLaw}
use Rattle.transactions.specs.Kept.{open_account}
use Rattle.transactions.specs.Watched.{Watched}
use Rattle.transactions.specs.Run.{Step, after_step, StepLaw, account_after, LawfulRun, shelf_set_up, Carried}
use Rattle.transactions.specs.Run.Step.{OnShelf, SetUp, ReadElsewhere, CommitElsewhere}
use Rattle.transactions.specs.Run.Carried.{begun, sets_up, opens, reads, reads_elsewhere, drafts, commits, commits_elsewhere, abandons, closes}
use Rattle.transactions.proofs.SettingUp.{set_up_watched}
use Rattle.transactions.proofs.Opening.{open_law, open_watched}
use Rattle.transactions.proofs.ReadCall.{read_law}
use Rattle.transactions.proofs.ReadKept.{read_watched}
use Rattle.transactions.proofs.Drafting.{draft_law, draft_watched}
use Rattle.transactions.proofs.CommitCall.{commit_law}
use Rattle.transactions.proofs.CommitKept.{commit_watched, commit_sound}
use Rattle.transactions.proofs.Ending.{abandon_law, abandon_watched, close_watched}
use Rattle.transactions.proofs.Elsewhere.{refused_set_up, read_elsewhere_law, read_elsewhere_watched, commit_elsewhere_law, commit_elsewhere_watched}

pub account_more : (a : Account) (ss : List Step) (s : Step) → account_after a (ss ++ (s ∷ [])) ≡ after_step (account_after a ss) s
account_more a [] s = refl
account_more a (d ∷ ss) s = account_more (after_step a d) ss s

pub run_more : (a : Account) (ss : List Step) (s : Step) → LawfulRun a ss → StepLaw (account_after a ss) s → LawfulRun a (ss ++ (s ∷ []))
run_more a [] s l h = (h, tt)
run_more a (d ∷ ss) s l h = (l.0, run_more (after_step a d) ss s l.1 h)

-- and what is watched goes on with it
pub run_on : (a : Account) (n : Meaning) (c : State) (ss : List Step) (s : Step) → LawfulRun a ss → StepLaw (account_after a ss) s
    → Watched (after_step (account_after a ss) s) n c → LawfulRun a (ss ++ (s ∷ [])) × Watched (account_after a (ss ++ (s ∷ []))) n c
run_on a n c ss s l h w = (run_more a ss s l h, subst (λ d. Watched d n c) (sym (account_more a ss s)) w)

-- a granted set-up cuts a run in two
pub run_since : (a : Account) (n : ℕ) (rs ss : List Step) → LawfulRun a (rs ++ (SetUp n (Ok tt) ∷ ss)) → LawfulRun (fresh n) ss
run_since a n [] ss l = l.1
run_since a n (r ∷ rs) ss l = run_since (after_step a r) n rs ss l.1

-- every run is lawful, where its beginning is watched
module _ (a : Account) (m₀ : Meaning) (b₀ : State) (w₀ : Watched a m₀ b₀) (s₀ : Sound m₀) where
  abbrev Lawfully : List Step → Meaning → State → Type 0
  Lawfully ss n c = LawfulRun a ss × Watched (account_after a ss) n c × Sound n

  goes_on : (n : Meaning) (c : State) (ss : List Step) (s : Step) → LawfulRun a ss → StepLaw (account_after a ss) s
      → Watched (after_step (account_after a ss) s) n c → Sound n → Lawfully (ss ++ (s ∷ [])) n c
  goes_on n c ss s l h w f = let (p, q) = run_on a n c ss s l h w in (p, q, f)

  -- a set-up with any shelf
  set_up_on : (n m : Meaning) (b : State) (ss : List Step) → Lawfully ss m b → Sound n → (r : Result (Unit {0}) Refusal) → r ≡ set_up_answer b n
      → Lawfully (ss ++ (SetUp n.cards r ∷ [])) (shelf_set_up r n m) (after_set_up b n)
  set_up_on n m b ss (l, w, s) f (Ok u) e = goes_on n (after_set_up b n) ss (SetUp n.cards (Ok u)) l tt (set_up_watched n f b (sym e)) f
  set_up_on n m b ss (l, w, s) f (Err g) e =
      goes_on m (after_set_up b n) ss (SetUp n.cards (Err g)) l tt
      (subst (Watched (account_after a ss) m) (sym (refused_set_up n b g (sym e))) w) s

  pub carried_lawful : {ss : List Step} {n : Meaning} {c : State} → Carried m₀ b₀ ss n c → Lawfully ss n c
  carried_lawful begun = (tt, w₀, s₀)
  carried_lawful (sets_up {ss} {m} {b} k n f) = set_up_on n m b ss (carried_lawful k) f (set_up_answer b n) refl
  carried_lawful (opens {ss} {m} {b} k r c e o) =
      let (l, w, s) = carried_lawful k in
      goes_on m c ss (OnShelf (events.Open r)) l
      (subst (OpenLaw (account_after a ss)) (sym e) (open_law (account_after a ss) m b w))
      (subst (λ z. Watched (open_account (account_after a ss) z) m c) (sym e) (open_watched (account_after a ss) m b w c o)) s
  carried_lawful (reads {ss} {m} {b} k t x) =
      let (l, w, s) = carried_lawful k in
      goes_on m _ ss _ l (read_law (account_after a ss) m b w t.0 x.0) (read_watched (account_after a ss) m b w t.0 x.0) s
  carried_lawful (reads_elsewhere {ss} {m} {b} k n t x f e) =
      let (l, w, s) = carried_lawful k in
      goes_on m _ ss (ReadElsewhere t x f) l (read_elsewhere_law (account_after a ss) m n b w t.0 x.0 f e)
      (read_elsewhere_watched (account_after a ss) m n b w t.0 x.0 f e) s
  carried_lawful (drafts {ss} {m} {b} k t x v) =
      let (l, w, s) = carried_lawful k in
      goes_on m _ ss _ l (draft_law (account_after a ss) m b w t.0 x.0) (draft_watched (account_after a ss) m b w t.0 x.0 v) s
  carried_lawful (commits {ss} {m} {b} k t) =
      let (l, w, s) = carried_lawful k in
      goes_on _ _ ss _ l (commit_law (account_after a ss) m b w t.0) (commit_watched (account_after a ss) m b s w t.0)
      (commit_sound (account_after a ss) m b s w t.0)
  carried_lawful (commits_elsewhere {ss} {m} {b} k n t f e) =
      let (l, w, s) = carried_lawful k in
      goes_on m _ ss (CommitElsewhere t f) l (commit_elsewhere_law (account_after a ss) m n b w t.0 f e)
      (commit_elsewhere_watched (account_after a ss) m n b w t.0 f e) s
  carried_lawful (abandons {ss} {m} {b} k t) =
      let (l, w, s) = carried_lawful k in
      goes_on m _ ss _ l (abandon_law (account_after a ss) m b w t.0) (abandon_watched (account_after a ss) m b w t.0) s
  carried_lawful (closes {ss} {m} {b} k) =
      let (l, w, s) = carried_lawful k in
      goes_on m _ ss (OnShelf events.Close) l tt (close_watched (account_after a ss) m b w) s
