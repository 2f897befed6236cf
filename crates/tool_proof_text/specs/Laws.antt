-- What is proved of the definitions, by subject.
pub mod Commitments
pub mod Matrices
pub mod Openings
pub mod Parts
pub mod Proofs
