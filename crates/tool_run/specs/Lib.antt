pub mod BadInput
pub mod Exit
pub mod Program
pub mod Run
pub mod Uniqueness
pub mod Laws
