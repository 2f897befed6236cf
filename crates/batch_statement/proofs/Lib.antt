pub mod Turns
pub mod Assembled
