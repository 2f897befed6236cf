-- What is proved of the definitions, by subject.
pub mod Flat
pub mod Staged
pub mod Draws
pub mod Ground
pub mod Events
pub mod ChunkRows
pub mod Chunks
pub mod Generated
pub mod Answered
pub mod Terminals
