-- What is proved of the definitions, by subject.
pub mod Draws
pub mod Sets
pub mod Streams
pub mod Elements
