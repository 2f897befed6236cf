pub mod Equation
pub mod Laws
pub mod Meets
pub mod Rows
