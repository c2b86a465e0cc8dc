-- The records of a file, one behind the other. Assumes nothing.
--     records_in bs               how many whole records the bytes have
--     part bs i                   the bytes of record i
--     parts_left bs i             the bytes of the records from place i on, one list for each
--     parts_of r                  those that a reader is still to hand out
--     Handed bs i p j             record i of the bytes is whole, p is it, and the place then is j
--     Ended bs i j                no whole record stands at place i, and the place then is j
--     HandsOut s r t              the reader s answers r and is t then: it handed out the next record, or had ended
use Rattle.std.specs.Prelude.{◌≡◌, ℕ, suc, ◌+◌, ◌*◌, ◌/◌, ◌-◌, ◌<◌, ◌≤◌, List, length, map, Option, MatchOption}
use denote.Ref.{Bor}
use Rattle.std.specs.List.{between, range_with_len}
use Rattle.records.specs.declared.reader.RecordReader.{RecordReader}
use Rattle.records.specs.Format.{record_size}

abbrev pub records_in : List ℕ → ℕ
records_in bs = length bs / record_size

abbrev pub part : List ℕ → ℕ → List ℕ
part bs i = between (i * record_size) (i * record_size + record_size) bs

abbrev pub parts_left : List ℕ → ℕ → List (List ℕ)
parts_left bs i = map (part bs) (range_with_len i (records_in bs - i))

abbrev pub parts_of : RecordReader → List (List ℕ)
parts_of r = parts_left r.bytes.now r.place

pub record Handed (bs : List ℕ) (i : ℕ) (p : List ℕ) (j : ℕ) : Type 0 where
  pub whole : i < records_in bs
  pub is : p ≡ part bs i
  pub long : length p ≡ record_size
  pub onward : j ≡ suc i

pub record Ended (bs : List ℕ) (i j : ℕ) : Type 0 where
  pub past : records_in bs ≤ i
  pub stays : j ≡ i

pub record HandsOut (s : RecordReader) (r : Option (Bor (List ℕ))) (t : RecordReader) : Type 0 where
  pub cases : MatchOption r (Ended s.bytes.now s.place t.place) (λ p. Handed s.bytes.now s.place p.now t.place)
  pub same : t.bytes.now ≡ s.bytes.now
