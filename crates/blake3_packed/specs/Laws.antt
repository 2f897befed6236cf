-- What is proved of the definitions, by subject.
pub mod Written
pub mod Planes
pub mod Transposed
pub mod Lanes
pub mod Present
pub mod Inputs
pub mod Steps
pub mod States
pub mod Blocks
