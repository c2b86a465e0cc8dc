pub mod Makes
pub mod Shelves
pub mod Text
pub mod Words
