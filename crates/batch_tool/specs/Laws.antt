-- What is proved of the definitions, by subject.
pub mod OneAnswer
pub mod Played
pub mod Statuses
