pub mod States
pub mod Reads
