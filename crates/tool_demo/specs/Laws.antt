-- What is proved of the definitions, by subject.
pub mod Within
pub mod OneAnswer
