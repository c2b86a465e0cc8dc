pub mod Journals
pub mod Rising
