-- What the tests of a file's records have found so far. Assumes nothing.
--     Readable bs n               the first n records have no bad field
--     lines_of bs n               the lines of the first n records
--     Scanned bs n                the first n records have passed every test
--     answered r                  the answer of a test that gives no lines back
--     deed_told d t l             line l tells the deed d of transaction t
--     deed_card d                 the card of a line that tells the deed d: an end has card 0
--     deed_kind d k               a line of kind k tells the deed d, if it is of the right transaction and card
--     node t                      the node under which the records of transaction t are linked
--     Seen bs n es                es has an edge from its transaction's node for each of the first n records
use Rattle.std.specs.Prelude.{◌≡◌, ℕ, zero, suc, ◌%◌, ◌<◌, Bool, true, List, [], ◌++◌, length, is_ok, Ok, Err, Result}
use Rattle.std.specs.Result.{result_ok}
use Rattle.std.specs.Option.{option_to_list}
use Rattle.records.specs.declared.kind.Kind.{Kind}
use Rattle.records.specs.declared.line.Line.{Line}
use Rattle.records.specs.Format.{decoded}
use Rattle.records.specs.Parts.{part}
use Rattle.rules.specs.declared.judge_fault.JudgeFault.{JudgeFault}
use Rattle.scan.specs.declared.deed.Deed.{Deed}
use Rattle.scan.specs.declared.deed.Deed.TheVariants.{Ended, Read, Written}
use Rattle.reach.specs.Links.{from}
use Rattle.rules.specs.Rules.{scanned, told, is_read, is_writ, is_end, ends}

abbrev pub Readable : List ℕ → ℕ → Type 0
Readable bs n = (i : ℕ) → i < n → is_ok (decoded (part bs i)) ≡ true

abbrev pub lines_of : List ℕ → ℕ → List Line
lines_of bs zero = []
lines_of bs (suc n) = lines_of bs n ++ option_to_list (result_ok (decoded (part bs n)))

pub record Scanned (bs : List ℕ) (n : ℕ) : Type 0 where
  pub good : Readable bs n
  pub lines : scanned bs n ≡ Ok (lines_of bs n)

abbrev pub answered : Result (List Line) JudgeFault → Result (Unit {0}) JudgeFault
answered (Ok ls) = Ok tt
answered (Err f) = Err f

abbrev pub deed_told : Deed → ℕ → Line → Bool
deed_told Ended t l = ends t l
deed_told (Read x) t l = told is_read t x.0 l
deed_told (Written x) t l = told is_writ t x.0 l

abbrev pub deed_card : Deed → ℕ
deed_card Ended = 0
deed_card (Read x) = x.0
deed_card (Written x) = x.0

abbrev pub deed_kind : Deed → Kind → Bool
deed_kind Ended k = is_end k
deed_kind (Read x) k = is_read k
deed_kind (Written x) k = is_writ k

abbrev pub node : ℕ → ℕ
node t = t % 2048

pub record Seen (bs : List ℕ) (n : ℕ) (es : List (ℕ × ℕ)) : Type 0 where
  pub each : length es ≡ n
  pub by : (k : ℕ) (l : Line) → k < n → decoded (part bs k) ≡ Ok l → from es k ≡ node l.transaction.0
