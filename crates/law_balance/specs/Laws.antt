-- What is proved of the definitions, by subject.
pub mod CommittedRows
pub mod CommittedSenders
pub mod Told
pub mod Accepted
pub mod Over
