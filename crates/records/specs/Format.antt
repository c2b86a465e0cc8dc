-- The record's format: 32 bytes to a line and back. Assumes nothing.
--     record_size                 how many bytes a record has
--     starts ls bs                the list bs begins with ls
--     letters k                   the four letters of a kind, in ASCII
--     kind_of bs                  the kind whose letters bs begins with, if any
--     number_at bs at n           the number that the n bytes of bs from place `at` write, highest byte first
--     bytes_of n v                the n bytes that write v, highest byte first
--     line_of k bs                the line of kind k whose fields stand in bs
--     no_words                    the words of a record that carries no value: of a READ, a DONE and a GONE
--     good_transaction .. good_words      the tests of a line's fields, one each
--     transaction_in bs, card_in bs       the transaction and the card that stand in a record's bytes
--     fault_of l                  the first bad field of a line, if any, of transaction, card, writer and words
--     decoded bs                  what the bytes of a record read as
--     encoded l                   the bytes that a line is written as
--     writes l n                  what writing l into n bytes answers
--     fault_number f              the number of a refusal for a record's fault
use Rattle.std.specs.Prelude.{ℕ, zero, suc, ◌+◌, ◌*◌, ◌/◌, ◌%◌, ◌^◌, Bool, true, false, cond, ◌&&◌, List, [], ◌∷◌, ◌++◌, length, drop, Some, None, Ok, Err, Option, Result, ◌==◌, nat_le, slice_index}
use Rattle.stamps.specs.declared.numbers.CardNo.{CardNo}
use Rattle.stamps.specs.declared.numbers.TxNo.{TxNo}
use Rattle.stamps.specs.declared.value.Value.{Value}
use Rattle.records.specs.declared.kind.Kind.{Kind}
use Rattle.records.specs.declared.kind.Kind.TheVariants.{Read, Writ, Done, Gone}
use Rattle.records.specs.declared.line.Line.{Line}
use Rattle.records.specs.declared.fault.PlacedFault.{PlacedFault}
use Rattle.records.specs.declared.fault.RecordFault.{RecordFault}
use Rattle.records.specs.declared.fault.RecordFault.TheVariants as faults

abbrev pub record_size : ℕ
record_size = 32

-- each kind has one refusal number: a record of another length is 21, a bad field is 22
abbrev pub fault_number : RecordFault → ℕ
fault_number faults.Length = 21
fault_number faults.Kind = 22
fault_number faults.Transaction = 22
fault_number faults.Card = 22
fault_number faults.Writer = 22
fault_number faults.Words = 22

abbrev pub letters : Kind → List ℕ
letters Read = 82 ∷ 69 ∷ 65 ∷ 68 ∷ []
letters Writ = 87 ∷ 82 ∷ 73 ∷ 84 ∷ []
letters Done = 68 ∷ 79 ∷ 78 ∷ 69 ∷ []
letters Gone = 71 ∷ 79 ∷ 78 ∷ 69 ∷ []

abbrev pub starts : List ℕ → List ℕ → Bool
starts [] bs = true
starts (l ∷ ls) [] = false
starts (l ∷ ls) (b ∷ bs) = b == l && starts ls bs

abbrev pub kind_of : List ℕ → Option Kind
kind_of bs =
    cond (starts (letters Read) bs) (Some Read)
    (cond (starts (letters Writ) bs) (Some Writ)
    (cond (starts (letters Done) bs) (Some Done)
    (cond (starts (letters Gone) bs) (Some Gone) None)))

abbrev pub number_at : List ℕ → ℕ → ℕ → ℕ
number_at bs at zero = 0
number_at bs at (suc n) = number_at bs at n * 256 + slice_index bs (at + n)

abbrev pub bytes_of : ℕ → ℕ → List ℕ
bytes_of zero v = []
bytes_of (suc zero) v = v % 256 ∷ []
bytes_of (suc (suc n)) v = v / 256 ^ suc n % 256 ∷ bytes_of (suc n) v

-- behind the letters: transaction, card, writer, four bytes each; the two words, eight bytes each
abbrev pub line_behind : Kind → List ℕ → Line
line_behind k rest = record {
  kind = k;
  transaction = record { 0 = number_at rest 0 4 };
  card = record { 0 = number_at rest 4 4 };
  writer = record { 0 = number_at rest 8 4 };
  value = record { first = number_at rest 12 8; second = number_at rest 20 8 };
}

abbrev pub line_of : Kind → List ℕ → Line
line_of k bs = line_behind k (drop 4 bs)

abbrev pub transaction_in : List ℕ → TxNo
transaction_in bs = record { 0 = number_at bs 4 4 }

abbrev pub card_in : List ℕ → CardNo
card_in bs = record { 0 = number_at bs 8 4 }

-- a transaction's number is 1 to 1,000,000
abbrev pub good_transaction : ℕ → Bool
good_transaction t = nat_le 1 t && nat_le t 1000000

-- a card's number is at most 255, and 0 at an end
abbrev pub good_card : Kind → ℕ → Bool
good_card Read c = nat_le c 255
good_card Writ c = nat_le c 255
good_card Done c = c == 0
good_card Gone c = c == 0

-- a READ names the writer of the version read, a WRIT its own transaction, an end nobody
abbrev pub good_writer : Kind → ℕ → ℕ → Bool
good_writer Read t w = nat_le w 1000000
good_writer Writ t w = w == t
good_writer Done t w = w == 0
good_writer Gone t w = w == 0

abbrev pub no_words : Value
no_words = record { first = 0; second = 0 }

abbrev pub has_no_words : Value → Bool
has_no_words v = v.first == no_words.first && v.second == no_words.second

-- only a WRIT has words
abbrev pub good_words : Kind → Value → Bool
good_words Read v = has_no_words v
good_words Writ v = true
good_words Done v = has_no_words v
good_words Gone v = has_no_words v

abbrev pub fault_of : Line → Option RecordFault
fault_of l =
    cond (good_transaction l.transaction.0)
    (cond (good_card l.kind l.card.0)
    (cond (good_writer l.kind l.transaction.0 l.writer.0)
    (cond (good_words l.kind l.value) None (Some faults.Words))
    (Some faults.Writer))
    (Some faults.Card))
    (Some faults.Transaction)

-- the line, or its first fault
abbrev pub tested : Line → Option RecordFault → Result Line RecordFault
tested l None = Ok l
tested l (Some f) = Err f

abbrev pub read_as : List ℕ → Option Kind → Result Line RecordFault
read_as bs None = Err faults.Kind
read_as bs (Some k) = tested (line_of k bs) (fault_of (line_of k bs))

abbrev pub decoded : List ℕ → Result Line RecordFault
decoded bs = cond (length bs == record_size) (read_as bs (kind_of bs)) (Err faults.Length)

-- the same of the record at place i of a file: its fault carries the place
abbrev pub placed_at : ℕ → Result Line RecordFault → Result Line PlacedFault
placed_at i (Ok l) = Ok l
placed_at i (Err f) = Err (record { fault = f; place = i })

abbrev pub fields_of : Line → List ℕ
fields_of l =
    bytes_of 4 l.transaction.0 ++ bytes_of 4 l.card.0 ++ bytes_of 4 l.writer.0
    ++ bytes_of 8 l.value.first ++ bytes_of 8 l.value.second

abbrev pub encoded : Line → List ℕ
encoded l = letters l.kind ++ fields_of l

abbrev pub written : Option RecordFault → Result (Unit {0}) RecordFault
written None = Ok tt
written (Some f) = Err f

-- writing l into n bytes: the length first, then the first bad field
abbrev pub writes : Line → ℕ → Result (Unit {0}) RecordFault
writes l n = cond (n == record_size) (written (fault_of l)) (Err faults.Length)
