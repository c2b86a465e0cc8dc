-- The theorems of specs/Theorems, from the lemmas.
use Rattle.std.proofs.Common.{ℕ, ◌⊎◌, refl, inl, inr}
use Rattle.isolation.specs.Account.{Account}
use Rattle.isolation.specs.Vectors.{Stamps, Vectors}
use Rattle.isolation.specs.Lawful.{Kept, Lawful, Current, Outdated}
use Rattle.isolation.specs.Rules.{Ruled}
use Rattle.isolation.specs.Rules.Ruled.{set_up, opens, reads, drafts, commits, ends, closes}
use Rattle.isolation.specs.Theorems.{FittingIsConsistent, NewestFitIsNewest, SomeVersionFits, ConflictIsClash}
use Rattle.isolation.specs.Theorems.{StepsKeepLaw, LawfulIsIsolated, OneSolution, RulesHaveVectors, VectorsDecide}
use Rattle.isolation.proofs.Lists.{read_some}
use Rattle.isolation.proofs.Steps.{fresh_lawful, open_lawful, draft_lawful, end_lawful, close_lawful}
use Rattle.isolation.proofs.ReadLaw.{read_lawful, fits_consistent, consistent_fits, newer_breaks, lawful_consistent, lawful_committed}
use Rattle.isolation.proofs.Newest.{newest_fits}
use Rattle.isolation.proofs.CommitLaw.{commit_lawful}
use Rattle.isolation.proofs.Conflict.{current_or_outdated, outdated_clash, clash_outdated, lawful_clash_free, extended, extended_extends}
use Rattle.isolation.proofs.Unique.{vectors_alike}
use Rattle.isolation.proofs.Alike.{lawful_alike}

pub fitting_is_consistent : FittingIsConsistent
fitting_is_consistent a s t x n l m le = (
  fits_consistent a s l t x n m.is_open m.is_listed le m.is_first,
  consistent_fits a s l t x n m.is_open m.is_listed le m.is_first,
)

pub newest_fit_is_newest : NewestFitIsNewest
newest_fit_is_newest a s t x n l m f = (
  fits_consistent a s l t x n m.is_open m.is_listed f.exists m.is_first f.fits,
  λ j lt le c. newer_breaks a s l t x n j m.is_open m.is_listed m.is_first f lt le c,
)

pub some_version_fits : SomeVersionFits
some_version_fits a s t x l lx = newest_fits a s l t x lx

pub conflict_is_clash : ConflictIsClash
conflict_is_clash a s t l o = (outdated_clash a s l t o, clash_outdated a s l t o)

-- with no card outdated, every drafted card stands at the version read
pub current : (a : Account) → Kept a → (t : ℕ) → (Outdated a t → ⊥) → Current a t
current a k t n = go (current_or_outdated a k t)
  where
    go : Current a t ⊎ Outdated a t → Current a t
    go (inl c) = c
    go (inr b) = absurd (n b)

pub steps_keep_law : StepsKeepLaw
steps_keep_law = record {
  on_set_up = fresh_lawful;
  on_open = open_lawful;
  on_read = λ a s t x n l o lx le f. read_lawful a s l t x n o lx le f;
  on_draft = λ a s t x v l e. draft_lawful a s t x v l (read_some (a.reads t) x e);
  on_commit = λ a s t s' l o n e. commit_lawful a s l t o (current a l.kept t n) s' e;
  on_end = end_lawful;
  on_close = close_lawful;
}

pub lawful_is_isolated : LawfulIsIsolated
lawful_is_isolated a s l = record {
  consistent = lawful_consistent a s l;
  clash_free = lawful_clash_free a s l;
  of_committed = lawful_committed a s l;
}

pub one_solution : OneSolution
one_solution a s l = (l.vectors, vectors_alike a s l)

-- the rules make lawful accounts
pub ruled_lawful : {a : Account} → Ruled a → (s : Stamps) × Lawful a s
ruled_lawful (set_up n) = (λ x k y. 0, fresh_lawful n (λ x k y. 0) (λ x y lx ly. refl))
ruled_lawful (opens {a} r) = let (s, l) = ruled_lawful r in (s, open_lawful a s l)
ruled_lawful (reads {a} r t x n o lx le c) =
    let (s, l) = ruled_lawful r in
    (s, read_lawful a s l t x n o lx le (λ e. consistent_fits a s l t x n o lx le e c))
ruled_lawful (drafts {a} r t x v o e) = let (s, l) = ruled_lawful r in (s, draft_lawful a s t x v l (read_some (a.reads t) x e))
ruled_lawful (commits {a} r t o c) =
    let (s, l) = ruled_lawful r in
    (extended a s t, commit_lawful a s l t o (current a l.kept t (λ b. c (outdated_clash a s l t o b))) (extended a s t) (extended_extends a s t))
ruled_lawful (ends {a} r t) = let (s, l) = ruled_lawful r in (s, end_lawful a s t l)
ruled_lawful (closes {a} r) = let (s, l) = ruled_lawful r in (s, close_lawful a s l)

pub rules_have_vectors : RulesHaveVectors
rules_have_vectors a r = let (s, l) = ruled_lawful r in (s, l.vectors, vectors_alike a s l)

-- and the dependence vectors of such an account are stamps with which it is lawful
pub vectors_lawful : (a : Account) (s : Stamps) → Ruled a → Vectors a s → Lawful a s
vectors_lawful a s r v = let (s₀, l) = ruled_lawful r in lawful_alike a s₀ l s (vectors_alike a s₀ l s v)

pub vectors_decide : VectorsDecide
vectors_decide a s r v =
    let l = vectors_lawful a s r v in
    record {
      fitting = λ t x n m le. fitting_is_consistent a s t x n l m le;
      newest_fit = λ t x lx. newest_fits a s l t x lx;
      conflict = λ t o. conflict_is_clash a s t l o;
      isolated = lawful_is_isolated a s l;
    }
