pub mod Links
pub mod Paths
pub mod Searches
