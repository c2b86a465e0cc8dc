pub mod Dump
pub mod Ends
