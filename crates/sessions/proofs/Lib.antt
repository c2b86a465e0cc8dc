pub mod Holding
pub mod Replies
pub mod Grown
pub mod Filing
pub mod Told
pub mod Lawfully
pub mod Rooms
