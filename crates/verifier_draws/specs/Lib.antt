pub mod Draws
pub mod Refused
pub mod Laws
