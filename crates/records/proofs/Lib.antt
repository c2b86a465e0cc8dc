pub mod Bytes
pub mod Letters
pub mod Fields
pub mod Parts
