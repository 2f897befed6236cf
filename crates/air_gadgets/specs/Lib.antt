pub mod Gadgets
pub mod Words
pub mod Laws
