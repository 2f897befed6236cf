-- What is proved of the definitions.
pub mod Reads
pub mod Rows
pub mod Sizes
