pub mod Space
pub mod Periodic
pub mod Weights
pub mod Laws
pub mod Claims
pub mod Failure
pub mod Commitments
