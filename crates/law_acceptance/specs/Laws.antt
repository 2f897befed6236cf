-- What is proved of honest proofs before a verifier, by check.
pub mod Lengths
pub mod Rounds
pub mod Entries
pub mod HonestMatrices
pub mod Opened
pub mod Shape
pub mod Identity
pub mod Accepted
pub mod Airs
pub mod Quotients
