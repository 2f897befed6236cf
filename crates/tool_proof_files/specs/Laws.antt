-- What is proved of the definitions, by subject.
pub mod Files
pub mod Tables
