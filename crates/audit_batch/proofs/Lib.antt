pub mod Each
pub mod Played
