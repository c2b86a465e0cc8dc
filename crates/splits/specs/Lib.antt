pub mod Split
pub mod SplitLaws
pub mod Splits
