pub mod Appends
pub mod Written
