pub mod Rows
pub mod RowMeaning
pub mod RowFacts
pub mod RowsLemmas
