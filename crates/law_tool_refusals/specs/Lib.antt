pub mod Possible
pub mod Lines
