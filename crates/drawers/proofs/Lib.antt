pub mod Spots
pub mod Stamps
