-- What is proved of the definitions, by subject.
pub mod Fits
pub mod Table
pub mod Meant
pub mod Within
pub mod Length
pub mod Outcome
