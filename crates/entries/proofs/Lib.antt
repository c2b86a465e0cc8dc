pub mod Last
pub mod Apart
pub mod Drafts
pub mod Walks
pub mod Stops
mod LeastSteps
