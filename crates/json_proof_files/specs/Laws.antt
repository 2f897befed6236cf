-- What is proved of the definitions, by subject.
pub mod FileForms
pub mod LeftOver
pub mod MatrixForms
pub mod OpeningForms
pub mod Plain
pub mod Readings
pub mod TableForms
