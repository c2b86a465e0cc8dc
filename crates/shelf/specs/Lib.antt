pub mod Meaning
pub mod Sound
pub mod Questions
pub mod Refusals
pub mod Putting
