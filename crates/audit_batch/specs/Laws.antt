-- What is proved of the definitions.
pub mod Asked
pub mod Naming
pub mod Parts
pub mod Shape
pub mod Audit
pub mod Report
pub mod Whole
pub mod Grinding
