pub mod ListLaws
pub mod NewLists
