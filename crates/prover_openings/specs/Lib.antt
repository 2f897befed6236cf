pub mod Asked
pub mod Check
pub mod Counts
pub mod Rows
pub mod Taken
pub mod Laws
