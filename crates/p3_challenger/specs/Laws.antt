-- What is proved of the definitions, by subject.
pub mod Bits
pub mod Reduction
pub mod Draws
pub mod Scripts
pub mod Flat
pub mod Sha256Flat
