-- What is proved of the definitions, by subject.
pub mod Repeating
pub mod Reads
pub mod QuotientValues
pub mod Given
pub mod Chunks
