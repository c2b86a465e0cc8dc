-- The rules of a history file, as statements over its lines by their places, counted from 0.
-- Assumes nothing.
--     At ls i l                   line i is l
--     Stands ls i k t             a line of kind k by transaction t stands at place i
--     WritAt ls i t x             the WRIT of card x by transaction t stands at place i
--     ReadAt ls i t x w           the READ of card x by transaction t, naming w, stands at place i
--     LineBy ls i t               a line by transaction t stands at place i
--     EndAt ls i t                an end of transaction t, a DONE or a GONE, stands at place i
--     ReadBefore ls i t x         a READ of card x by transaction t stands before place i
--     WritBefore ls i t x         a WRIT of card x by transaction t stands before place i
--     EndBefore ls i t            an end of transaction t stands before place i
--     InPlace ls i                the line at place i may stand there, whatever stands behind it
--     AllGood ls                  every line has good fields
--     AllInPlace ls               every line is in place
--     LineRules ls                both
--     Ends ls t                   transaction t has an end
--     AllEnd ls                   every transaction has an end
--     Begins ls i t               place i has the first line of transaction t
--     FirstUnended ls p           p has the first line of the earliest transaction with no end
--     FileRules ls                the lines obey the rules of a file: LineRules and AllEnd
use Rattle.std.specs.Prelude.{◌≡◌, ℕ, ◌<◌, ◌⊎◌, List, Some}
use Rattle.std.specs.List.{slice_get}
use Rattle.records.specs.declared.kind.Kind.{Kind}
use Rattle.records.specs.declared.kind.Kind.TheVariants.{Read, Writ, Done, Gone}
use Rattle.records.specs.declared.line.Line.{Line}
use Rattle.rules.specs.Fields.{GoodFields}

abbrev pub At : List Line → ℕ → Line → Type 0
At ls i l = slice_get ls i ≡ Some l

pub record Stands (ls : List Line) (i : ℕ) (k : Kind) (t : ℕ) : Type 0 where
  pub line : Line
  pub at : At ls i line
  pub kind : line.kind ≡ k
  pub by : line.transaction.0 ≡ t

pub record WritAt (ls : List Line) (i t x : ℕ) : Type 0 where
  pub stands : Stands ls i Writ t
  pub card : stands.line.card.0 ≡ x

pub record ReadAt (ls : List Line) (i t x w : ℕ) : Type 0 where
  pub stands : Stands ls i Read t
  pub card : stands.line.card.0 ≡ x
  pub writer : stands.line.writer.0 ≡ w

abbrev pub LineBy : List Line → (i t : ℕ) → Type 0
LineBy ls i t = (k : Kind) × Stands ls i k t

abbrev pub EndAt : List Line → (i t : ℕ) → Type 0
EndAt ls i t = Stands ls i Done t ⊎ Stands ls i Gone t

abbrev pub ReadBefore : List Line → (i t x : ℕ) → Type 0
ReadBefore ls i t x = (j : ℕ) × (j < i) × (w : ℕ) × ReadAt ls j t x w

abbrev pub WritBefore : List Line → (i t x : ℕ) → Type 0
WritBefore ls i t x = (j : ℕ) × (j < i) × WritAt ls j t x

abbrev pub EndBefore : List Line → (i t : ℕ) → Type 0
EndBefore ls i t = (j : ℕ) × (j < i) × EndAt ls j t

pub record InPlace (ls : List Line) (i : ℕ) : Type 0 where
  -- nothing comes after a transaction's end
  pub not_after_end : (t : ℕ) → LineBy ls i t → ¬ EndBefore ls i t
  -- a transaction reads a card once, and writes it once
  pub first_read : (t x w : ℕ) → ReadAt ls i t x w → ¬ ReadBefore ls i t x
  pub first_writ : (t x : ℕ) → WritAt ls i t x → ¬ WritBefore ls i t x
  -- a WRIT comes after its transaction's own READ of the card
  pub own_read : (t x : ℕ) → WritAt ls i t x → ReadBefore ls i t x
  -- a READ does not name its own transaction; it names 0, or one with an earlier WRIT of the card
  pub names_another : (t x w : ℕ) → ReadAt ls i t x w → ¬ (w ≡ t)
  pub writer_wrote : (t x w : ℕ) → ReadAt ls i t x w → (w ≡ 0) ⊎ WritBefore ls i w x

abbrev pub AllGood : List Line → Type 0
AllGood ls = (i : ℕ) (l : Line) → At ls i l → GoodFields l

abbrev pub AllInPlace : List Line → Type 0
AllInPlace ls = (i : ℕ) → InPlace ls i

pub record LineRules (ls : List Line) : Type 0 where
  pub good : AllGood ls
  pub in_place : AllInPlace ls

abbrev pub Ends : List Line → ℕ → Type 0
Ends ls t = (i : ℕ) × EndAt ls i t

abbrev pub AllEnd : List Line → Type 0
AllEnd ls = (i t : ℕ) → LineBy ls i t → Ends ls t

pub record Begins (ls : List Line) (i t : ℕ) : Type 0 where
  pub here : LineBy ls i t
  pub first : (j : ℕ) → j < i → ¬ LineBy ls j t

pub record FirstUnended (ls : List Line) (p : ℕ) : Type 0 where
  pub transaction : ℕ
  pub begins : Begins ls p transaction
  pub unended : ¬ Ends ls transaction
  pub earliest : (i t : ℕ) → i < p → Begins ls i t → Ends ls t

pub record FileRules (ls : List Line) : Type 0 where
  pub lines : LineRules ls
  pub ended : AllEnd ls
