-- What the contracts say of a card that nobody wrote. Assumes nothing.
--     blank       the value of version 0 of every card: both words 0
use Rattle.stamps.specs.declared.value.Value.{Value}

abbrev pub blank : Value
blank = record { first = 0; second = 0 }
