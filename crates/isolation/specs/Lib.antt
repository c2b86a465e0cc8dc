pub mod History
pub mod Account
pub mod AccountHistory
pub mod Vectors
pub mod Lawful
pub mod Rules
pub mod Theorems
pub mod Reasons
