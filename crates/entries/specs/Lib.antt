pub mod Numbers
pub mod Least
pub mod Contents
pub mod Rising
