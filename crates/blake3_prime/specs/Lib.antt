pub mod Trees
pub mod Meanings
pub mod Rows
pub mod Random
pub mod Laws
