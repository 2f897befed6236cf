-- What is proved of the definitions, by subject.
pub mod Words
pub mod Schedule
pub mod Cells
pub mod Compress
pub mod Pushing
pub mod State
