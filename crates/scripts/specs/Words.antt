-- The words that write a size. Assumes nothing.
--     word words i     a word's bytes
--     number_of bs     the number that a word writes in decimal, where it writes one; a plus may stand before it
--     IsNumber bs      a word writes a number below 2 ^ 32
--     AreNumbers ws    all three words do
--     size_in ws       the size with these numbers
--     SizeIn ws r      r is the size that three words write, and none exactly where one of them writes no such number
use Rattle.std.specs.Prelude.{ℕ, ◌^◌, ◌<◌, List, [], Option, SomeIff, slice_index_or}
use Rattle.std.specs.Borrow.{Bor}
use Rattle.std.specs.Str.Parse.{IsNumeral, digits_value, without_leading_plus}
use Rattle.shelf.specs.declared.size.Size.{Size}

abbrev pub Words : Type 0
Words = List (Bor (List ℕ))

abbrev pub word : Words → ℕ → List ℕ
word words i = (slice_index_or words i (record { ref_ptr = (0, 0); now = [] })).now

abbrev pub number_of : List ℕ → ℕ
number_of bs = digits_value 10 (without_leading_plus bs)

abbrev pub IsNumber : List ℕ → Type 0
IsNumber bs = IsNumeral 10 (without_leading_plus bs) × (number_of bs < 2 ^ 32)

abbrev pub AreNumbers : Words → Type 0
AreNumbers words = IsNumber (word words 0) × (IsNumber (word words 1) × IsNumber (word words 2))

abbrev pub size_in : Words → Size
size_in words = record { cards = number_of (word words 0); width = number_of (word words 1); places = number_of (word words 2) }

abbrev pub SizeIn : Words → Option Size → Type 0
SizeIn words r = SomeIff r (AreNumbers words) (size_in words)
