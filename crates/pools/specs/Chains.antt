-- Versions of many cards in one row of places, in the order in which they were put, and the links between them. Assumes nothing.
--     gathered owner at c n       of the first n places those that card c owns, at place p the version `at p`, in their order
--     tally owner c n             how many these are
--     chain_at cs q, owner cs q   what stands beside place q;  the card that owns it;  link_at ls c   the link of card c
--     leads cs n c l              link l is version 0's, or leads to a place below n of card c, and tells the version's number
--     Leads cs n c l              the same, as a fact
--     known cs q                  the older link beside place q leads to the version before it, and the jump link to some version before it
--     jump_from cs l              the jump link beside the version that link l leads to; version 0 leads to itself
--     longer l far farther        link farther if from l to far it is as far as from far to farther, else l
--     jump_after cs l             the jump link for the version after that one: past the two jumps before it, if they are equally long
--     newest_known cs n ls c      card c's link leads to its newest version in the first n places
use Rattle.std.specs.Prelude.{◌≡◌, ℕ, zero, suc, ◌-◌, ◌<◌, Bool, cond, ◌&&◌, ◌||◌, List, [], ◌∷◌, ◌++◌, ◌==◌, nat_le, nat_lt, slice_index_or}
use Rattle.pools.specs.declared.chain.Chain.{Chain}
use Rattle.pools.specs.declared.chain.Link.{Link}
use Rattle.shelf.specs.Meaning.{Version}

abbrev pub gathered : (ℕ → ℕ) → (ℕ → Version) → ℕ → ℕ → List Version
gathered owner at c zero = []
gathered owner at c (suc n) = cond (owner n == c) (gathered owner at c n ++ at n ∷ []) (gathered owner at c n)

abbrev pub tally : (ℕ → ℕ) → ℕ → ℕ → ℕ
tally owner c zero = 0
tally owner c (suc n) = cond (owner n == c) (suc (tally owner c n)) (tally owner c n)

abbrev pub no_link : Link
no_link = record { number = 0; place = 0 }

abbrev pub no_chain : Chain
no_chain = record { card = record { 0 = 0 }; older = no_link; jump = no_link }

abbrev pub chain_at : List Chain → ℕ → Chain
chain_at cs q = slice_index_or cs q no_chain

abbrev pub link_at : List Link → ℕ → Link
link_at ls c = slice_index_or ls c no_link

abbrev pub owner : List Chain → ℕ → ℕ
owner cs q = (chain_at cs q).card.0

abbrev pub leads : List Chain → ℕ → ℕ → Link → Bool
leads cs n c l =
    (l.number == 0)
    || (nat_lt l.place n && (owner cs l.place == c && suc (tally (owner cs) c l.place) == l.number))

pub record Led (cs : List Chain) (n c : ℕ) (l : Link) : Type 0 where
  pub below : l.place < n
  pub owned : owner cs l.place ≡ c
  pub told : suc (tally (owner cs) c l.place) ≡ l.number

abbrev pub Leads : List Chain → ℕ → ℕ → Link → Type 0
Leads cs n c l = 0 < l.number → Led cs n c l

abbrev pub known : List Chain → ℕ → Bool
known cs q =
    ((chain_at cs q).older.number == tally (owner cs) (owner cs q) q && leads cs q (owner cs q) (chain_at cs q).older)
    && (nat_le (chain_at cs q).jump.number (tally (owner cs) (owner cs q) q) && leads cs q (owner cs q) (chain_at cs q).jump)

abbrev pub jump_from : List Chain → Link → Link
jump_from cs l = cond (l.number == 0) l (chain_at cs l.place).jump

abbrev pub longer : Link → Link → Link → Link
longer l far farther = cond (l.number - far.number == far.number - farther.number) farther l

abbrev pub jump_after : List Chain → Link → Link
jump_after cs l = longer l (jump_from cs l) (jump_from cs (jump_from cs l))

abbrev pub newest_known : List Chain → ℕ → List Link → ℕ → Bool
newest_known cs n ls c = (link_at ls c).number == tally (owner cs) c n && leads cs n c (link_at ls c)
