mod Rows
mod Each
mod Places
mod Standing
mod Changes
pub mod Entering
mod EnteringDrafts
mod Freed
