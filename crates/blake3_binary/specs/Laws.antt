-- What is proved of the definitions, by subject.
pub mod Words
pub mod Sums
pub mod Values
pub mod Rounds
pub mod Cells
pub mod Completion
pub mod Bits
pub mod Exact
pub mod Step
pub mod Degree
pub mod Places
pub mod Reads
pub mod Pushing
pub mod Generated
pub mod Output
