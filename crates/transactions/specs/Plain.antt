-- What a lawful run shows of itself, in the words of the calls and their answers alone. Assumes nothing.
--     opens_in ss                 how many of the opens among ss were granted
--     NoSetUp ss                  no set-up among ss was granted
--     PlainLaw ss                 of the steps ss, counted from 0: two reads of a card by one transaction answer one version; a read
--                                 answers the transaction's own draft, where no other for that card came after it; granted opens are
--                                 numbered from 1
use Rattle.std.specs.Prelude.{◌≡◌, ℕ, suc, ◌+◌, ◌<◌, List, [], ◌∷◌, take, Some, Ok, Err, ◌≢◌}
use Rattle.std.specs.List.{slice_get}
use Rattle.stamps.specs.declared.numbers.CardNo.{CardNo}
use Rattle.stamps.specs.declared.numbers.TxNo.{TxNo}
use Rattle.stamps.specs.declared.value.Value.{Value}
use Rattle.transactions.specs.declared.reading.Reading.{Reading as Answer}
use Rattle.transactions.specs.declared.event.Event.{Event}
use Rattle.transactions.specs.declared.event.Event.TheVariants as events
use Rattle.transactions.specs.Run.{Step}
use Rattle.transactions.specs.Run.Step.{OnShelf, SetUp, ReadElsewhere, CommitElsewhere}

-- 1 for a granted open
abbrev pub opened_by : Event → ℕ
opened_by (events.Open (Ok n)) = 1
opened_by (events.Open (Err f)) = 0
opened_by (events.Read t x r) = 0
opened_by (events.Draft t x v r) = 0
opened_by (events.Commit t r) = 0
opened_by (events.Abandon t r) = 0
opened_by events.Close = 0

abbrev pub opened_in : Step → ℕ
opened_in (OnShelf e) = opened_by e
opened_in (SetUp n r) = 0
opened_in (ReadElsewhere t x f) = 0
opened_in (CommitElsewhere t f) = 0

abbrev pub opens_in : List Step → ℕ
opens_in [] = 0
opens_in (s ∷ ss) = opened_in s + opens_in ss

abbrev pub NoSetUp : List Step → Type 0
NoSetUp ss = (i n : ℕ) → slice_get ss i ≢ Some (SetUp n (Ok tt))

pub record PlainLaw (ss : List Step) : Type 0 where
  pub again : (i j : ℕ) (t : TxNo) (x : CardNo) (p q : Answer) → slice_get ss i ≡ Some (OnShelf (events.Read t x (Ok p)))
      → slice_get ss j ≡ Some (OnShelf (events.Read t x (Ok q))) → p.version.0 ≡ q.version.0
  pub own_words : (i j : ℕ) (t : TxNo) (x : CardNo) (v : Value) (q : Answer)
      → slice_get ss i ≡ Some (OnShelf (events.Draft t x v (Ok tt)))
      → slice_get ss j ≡ Some (OnShelf (events.Read t x (Ok q))) → i < j
      → ((k : ℕ) (u : Value) → i < k → k < j → slice_get ss k ≢ Some (OnShelf (events.Draft t x u (Ok tt)))) → q.value ≡ v
  pub numbered : (i : ℕ) (n : TxNo) → slice_get ss i ≡ Some (OnShelf (events.Open (Ok n))) → n.0 ≡ suc (opens_in (take i ss))
