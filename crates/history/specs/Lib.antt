pub mod Texts
pub mod Judging
