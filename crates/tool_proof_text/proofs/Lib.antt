pub mod Heights
pub mod Prints
