pub mod Days
pub mod Examples
