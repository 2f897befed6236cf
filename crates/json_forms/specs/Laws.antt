-- What is proved of the definitions, by subject.
pub mod Forms
pub mod More
pub mod Plain
