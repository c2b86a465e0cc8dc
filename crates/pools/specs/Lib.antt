pub mod Chains
pub mod Pools
pub mod PoolMeaning
pub mod PoolFacts
pub mod Links
pub mod PoolsLemmas
