-- What is proved of the definitions, by subject.
pub mod Declared
pub mod Linked
pub mod Chain
pub mod Traces
pub mod Generated
