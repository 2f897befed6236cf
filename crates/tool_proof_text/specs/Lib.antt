pub mod Laws
pub mod Matrices
pub mod Openings
pub mod ProofText
