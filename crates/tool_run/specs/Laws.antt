-- What is proved of the definitions, by subject.
pub mod BadInput
pub mod OneAnswer
pub mod Words
