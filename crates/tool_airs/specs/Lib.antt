pub mod Airs
pub mod Laws
