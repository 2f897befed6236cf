-- What is proved of the definitions, by subject.
pub mod Columns
pub mod Committed
pub mod Holding
pub mod Made
