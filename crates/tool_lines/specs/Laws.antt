-- What is proved of the definitions, by subject.
pub mod Back
pub mod Counts
pub mod FixedParts
pub mod Grammars
pub mod Lines
pub mod Prints
pub mod Stops
pub mod Tells
