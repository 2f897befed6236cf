pub mod Encoder
pub mod Laws
