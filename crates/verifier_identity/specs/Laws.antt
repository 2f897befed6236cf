-- What is proved of the definitions, by subject.
pub mod Opened
pub mod Verdict
pub mod Single
