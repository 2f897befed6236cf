-- What is proved of the definitions, by subject.
pub mod RowCheck
pub mod Nonzero
