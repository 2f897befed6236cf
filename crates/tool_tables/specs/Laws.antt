-- What is proved of the definitions, by subject.
pub mod Tool
pub mod OneWidth
pub mod Words
