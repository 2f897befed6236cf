-- What is proved of the definitions, by subject.
pub mod Answers
pub mod Audited
pub mod Explain
pub mod Heights
pub mod OneAnswer
pub mod Reports
pub mod Statuses
