pub mod Blank
pub mod Counts
pub mod Entries
