-- What is proved of the definitions, by subject.
pub mod Compressions
pub mod Matrices
pub mod Readable
pub mod RowText
