-- What the judge asks of the entries. Assumes nothing.
--     some_below p n              some number below n passes the test p
--     source es e                 the owner of the transaction that wrote the version that e reads
--     Towards                     which way steps lead: from each transaction to those that it reads from, or to those that read from it
--     step_of d es e, steps d es n        the step from reader to writer, or the other way round, of e, and of the first n entries
--     done_in es o n              the place of the first DONE of the transaction with owner o in the first n entries, if there is one
--     before ds o i               the transaction with owner o has a DONE before place i, where ds has the places of the DONEs
--     dirty es ds i               entry i is a READ from a transaction without an earlier DONE
--     committed ds o              the transaction with owner o has a DONE
--     marked ms o                 the mark of the transaction with owner o is set
--     outdated es ms r            a marked transaction wrote a newer version than r read
--     stale es ms o               the transaction with owner o read such an r
--     own_node e, writ_node e     the nodes under which an entry is listed: its owner; a WRIT's card, and one for all others
--     apart ds fs bs o            the transaction with owner o is committed, and marked in neither fs nor bs
--     clashes es ds fs bs i       entry i has an earlier rival that is committed and marked in neither fs nor bs
--     lost es ds fs bs o          the transaction with owner o has such an entry
--     Owner es o                  entry o is the first of its transaction
--     Each es S n r               of the transactions with owners below n none answers S with yes (r is true), or some transaction does
--     Snapshot, Snapshots         what searches tell of one snapshot, and of all
--     BackAsked, Asked           what is asked of one transaction where a search has marked what it depends on
--     Conflict, Conflicts         what searches tell of one transaction's conflicts, and of all
use Rattle.std.specs.Prelude.{◌≡◌, ℕ, zero, suc, ◌-◌, ◌%◌, ◌<◌, ◌≤◌, Bool, true, false, cond, not, ◌&&◌, ◌||◌, ◌⊎◌, List, [], ◌∷◌, ◌++◌, length, MatchBool, ◌==◌, nat_lt, Option, Some, None, is_some, slice_index, slice_index_or}
use Rattle.reach.specs.Paths.{Reached}
use Rattle.rules.specs.Rules.{is_read, is_writ}
use Rattle.digest.specs.Entries.{at, is_done, is_step, newer, rivals}
use Rattle.digest.specs.declared.entry.Entry.{Entry}

unfoldable pub some_below : (ℕ → Bool) → ℕ → Bool
some_below p zero = false
some_below p (suc n) = p n || some_below p n

-- the writer's owner, of a READ of a version above 0
abbrev pub source : List Entry → Entry → ℕ
source es e = (at es (e.version - 1)).owner

pub data Towards : Type 0 where
  Writers : Towards
  Readers : Towards

abbrev pub step_of : Towards → List Entry → Entry → ℕ × ℕ
step_of Writers es e = (e.owner, source es e)
step_of Readers es e = (source es e, e.owner)

unfoldable pub steps : Towards → List Entry → ℕ → List (ℕ × ℕ)
steps d es zero = []
steps d es (suc n) = cond (is_step (at es n)) (steps d es n ++ step_of d es (at es n) ∷ []) (steps d es n)

unfoldable pub done_in : List Entry → ℕ → ℕ → Option ℕ
done_in es o zero = None
done_in es o (suc n) = cond (is_done (at es n).kind && (at es n).owner == o && not (is_some (done_in es o n))) (Some n) (done_in es o n)

abbrev pub comes_before : Option ℕ → ℕ → Bool
comes_before None i = false
comes_before (Some d) i = nat_lt d i

abbrev pub before : List (Option ℕ) → ℕ → ℕ → Bool
before ds o i = comes_before (slice_index_or ds o None) i

abbrev pub committed : List (Option ℕ) → ℕ → Bool
committed ds o = is_some (slice_index_or ds o None)

abbrev pub dirty : List Entry → List (Option ℕ) → ℕ → Bool
dirty es ds i = is_step (at es i) && not (before ds (source es (at es i)) i)

abbrev pub marked : List ℕ → ℕ → Bool
marked ms o = nat_lt 0 (slice_index ms o)

abbrev pub outdated : List Entry → List ℕ → Entry → Bool
outdated es ms r = some_below (λ j. newer (at es j) r && marked ms (at es j).owner) (length es)

abbrev pub stale : List Entry → List ℕ → ℕ → Bool
stale es ms o = some_below (λ i. is_read (at es i).kind && (at es i).owner == o && outdated es ms (at es i)) (length es)

abbrev pub apart : List (Option ℕ) → List ℕ → List ℕ → ℕ → Bool
apart ds fs bs o = committed ds o && not (marked fs o || marked bs o)

abbrev pub clashes : List Entry → List (Option ℕ) → List ℕ → List ℕ → ℕ → Bool
clashes es ds fs bs i = some_below (λ j. rivals (at es i) (at es j) && apart ds fs bs (at es j).owner) i

abbrev pub lost : List Entry → List (Option ℕ) → List ℕ → List ℕ → ℕ → Bool
lost es ds fs bs o = some_below (λ i. is_writ (at es i).kind && (at es i).owner == o && clashes es ds fs bs i) (length es)

abbrev pub own_node : Entry → ℕ
own_node e = e.owner

abbrev pub writ_node : Entry → ℕ
writ_node e = cond (is_writ e.kind) (e.card.0 % 2048) 2047

abbrev pub Owner : List Entry → ℕ → Type 0
Owner es o = (o < length es) × ((at es o).owner ≡ o)

-- marks that a search from o leaves, and that say of the transaction with owner o whether it is stale
pub record Snapshot (es : List Entry) (gs : List (ℕ × ℕ)) (m o : ℕ) (answer : Bool) : Type 0 where
  pub marks : List ℕ
  pub reached : Reached gs o marks
  pub long : m ≤ length marks
  pub tells : stale es marks o ≡ answer

-- of the transactions with owners below n each answers no, or some transaction answers yes
abbrev pub Each : List Entry → (ℕ → Bool → Type 0) → ℕ → Bool → Type 0
Each es S n r = MatchBool r ((o : ℕ) → o < n → (at es o).owner ≡ o → S o false) ((o : ℕ) × Owner es o × S o true)

abbrev pub Snapshots : List Entry → List (ℕ × ℕ) → ℕ → ℕ → Bool → Type 0
Snapshots es gs m n r = Each es (Snapshot es gs m) n r

-- marks that a search from o against the steps leaves, and that say with fs whether o is lost
pub record BackAsked (es : List Entry) (ds : List (Option ℕ)) (hs : List (ℕ × ℕ)) (m : ℕ) (fs : List ℕ) (o : ℕ) (answer : Bool) : Type 0 where
  pub backward : List ℕ
  pub reaching : Reached hs o backward
  pub long : m ≤ length backward
  pub tells : lost es ds fs backward o ≡ answer

-- the transaction with owner o is committed and lost; or it is not committed, or the marks fs alone say that it is not lost, or those of both searches
abbrev pub Asked : List Entry → List (Option ℕ) → List (ℕ × ℕ) → ℕ → List ℕ → ℕ → Bool → Type 0
Asked es ds hs m fs o true = (committed ds o ≡ true) × BackAsked es ds hs m fs o true
Asked es ds hs m fs o false = (committed ds o ≡ false) ⊎ ((lost es ds fs fs o ≡ false) ⊎ BackAsked es ds hs m fs o false)

-- marks that a search from o leaves, and what is asked then
pub record Conflict (es : List Entry) (ds : List (Option ℕ)) (gs hs : List (ℕ × ℕ)) (m o : ℕ) (answer : Bool) : Type 0 where
  pub forward : List ℕ
  pub reached : Reached gs o forward
  pub long : m ≤ length forward
  pub asked : Asked es ds hs m forward o answer

abbrev pub Conflicts : List Entry → List (Option ℕ) → List (ℕ × ℕ) → List (ℕ × ℕ) → ℕ → ℕ → Bool → Type 0
Conflicts es ds gs hs m n r = Each es (Conflict es ds gs hs m) n r
