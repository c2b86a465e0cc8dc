pub mod Rules
pub mod Fields
pub mod Lines
pub mod FileLaw
