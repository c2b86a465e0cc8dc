pub mod Accepted
pub mod FieldLaws
pub mod Snoc
pub mod SomeLaws
pub mod PlaceLaws
pub mod ScanLaws
pub mod EndLaws
pub mod FileLaws
