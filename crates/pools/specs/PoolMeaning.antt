-- The meaning of a pool's drawer, and of the memory that it is made from. Assumes nothing.
--     pool_meaning s          what a shelf over the drawer s means
--     pool_fits mem size      a pool shelf of this size fits into the memory
--     pool_made mem size      what is made of it: the fresh pool if it fits, else the shelf of no cards
use Rattle.std.specs.Prelude.{Bool, ◌&&◌, vec_items, vec_len, nat_le}
use Rattle.pools.specs.declared.pool.PoolMemory.{PoolMemory}
use Rattle.pools.specs.declared.pool.PoolDrawer.{PoolDrawer}
use Rattle.pools.specs.Chains.{owner}
use Rattle.shelf.specs.Meaning.{Meaning}
use Rattle.shelf.specs.declared.size.Size.{Size}
use Rattle.drawers.specs.Places.{version_in}
use Rattle.drawers.specs.Fresh.{made, all_one, size_fits}
use Rattle.pools.specs.Pools.{pool_of}

unfoldable pub pool_meaning : PoolDrawer → Meaning
pool_meaning s = pool_of s.size.cards s.size.width s.size.places s.used (owner (vec_items s.chains)) (version_in s.places s.size.width)

abbrev pub pool_fits : PoolMemory → Size → Bool
pool_fits mem size =
    size_fits 65535 size
    && (nat_le size.cards (vec_len mem.newest)
    && (nat_le size.places (vec_len mem.chains) && nat_le size.places (vec_len mem.places.written)))

abbrev pub pool_made : PoolMemory → Size → Meaning
pool_made mem size = made (pool_fits mem size) size all_one
