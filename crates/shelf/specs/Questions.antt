-- What the questions answer, from a shelf's meaning; none where the shelf lacks the card or the version. Assumes nothing.
--     versions_of m c         how many versions card c has
--     newest_of m c           the number of its newest version
--     shares_of m a b         whether cards a and b share a drawer
--     free_of m c             the free places of card c's drawer
--     value_of m c k          the value of version k of card c
--     writer_of m c k         its writer
--     entry_of m c k i        its stamp's count at card i, 0 past the width
--     stamp_of m c k          its stamp's counts
use Rattle.std.specs.Prelude.{ℕ, Bool, cond, ◌&&◌, length, Some, None, Option, nat_lt}
use Rattle.std.specs.Option.{option_map}
use Rattle.stamps.specs.declared.numbers.TxNo.{TxNo}
use Rattle.stamps.specs.declared.numbers.VersionNo.{VersionNo}
use Rattle.stamps.specs.declared.value.Value.{Value}
use Rattle.shelf.specs.Meaning.{Meaning, version_at, newest}

abbrev pub versions_of : Meaning → ℕ → Option ℕ
versions_of m c = cond (nat_lt c m.cards) (Some (length (m.line c))) None

abbrev pub newest_of : Meaning → ℕ → Option VersionNo
newest_of m c = cond (nat_lt c m.cards) (Some (record { 0 = newest m c })) None

abbrev pub shares_of : Meaning → ℕ → ℕ → Option Bool
shares_of m a b = cond (nat_lt a m.cards && nat_lt b m.cards) (Some (m.shares a b)) None

abbrev pub free_of : Meaning → ℕ → Option ℕ
free_of m c = cond (nat_lt c m.cards) (Some (m.free c)) None

abbrev pub value_of : Meaning → ℕ → ℕ → Option Value
value_of m c k = option_map (λ v. v.value) (version_at m c k)

abbrev pub writer_of : Meaning → ℕ → ℕ → Option TxNo
writer_of m c k = option_map (λ v. record { 0 = v.writer }) (version_at m c k)

abbrev pub entry_of : Meaning → ℕ → ℕ → ℕ → Option ℕ
entry_of m c k i = option_map (λ v. v.stamp i) (version_at m c k)

abbrev pub stamp_of : Meaning → ℕ → ℕ → Option (ℕ → ℕ)
stamp_of m c k = option_map (λ v. v.stamp) (version_at m c k)
