-- What is proved of the definitions, by subject.
pub mod Drawn
pub mod Instances
