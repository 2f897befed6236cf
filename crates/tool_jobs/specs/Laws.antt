-- What is proved of the definitions, by subject.
pub mod Kinds
pub mod Texts
pub mod Airs
pub mod Statements
