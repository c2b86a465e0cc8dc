mod IndexLaws
mod ScanLaws
pub mod Snoc
pub mod LinkLaws
mod EntryLaws
pub mod FactLaws
mod IndexedLaws
