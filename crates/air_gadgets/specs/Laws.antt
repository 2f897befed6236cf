-- What is proved of the definitions, by subject.
pub mod Bits
pub mod Packing
pub mod Gadgets
pub mod Words
