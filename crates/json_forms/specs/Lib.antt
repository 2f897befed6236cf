pub mod Laws
pub mod Objects
pub mod Readings
pub mod Trees
