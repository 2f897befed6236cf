-- What is proved of the definitions, by subject.
pub mod Texts
pub mod Sizes
pub mod Statuses
pub mod OneAnswer
