-- What is proved of the definitions, by subject.
pub mod Answers
pub mod OneAnswer
pub mod Readings
pub mod Statuses
