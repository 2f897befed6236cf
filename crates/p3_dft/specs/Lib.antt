pub mod Transform
pub mod Reversed
pub mod Laws
