-- What is proved of the definitions, by subject.
pub mod Verdicts
pub mod Parts
pub mod Reads
pub mod Items
