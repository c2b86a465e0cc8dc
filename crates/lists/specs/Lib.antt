pub mod Lists
pub mod ListMeaning
pub mod ListFacts
