-- What is proved of the definitions, by subject.
pub mod Scheme
pub mod Checks
pub mod Causes
pub mod Alike
pub mod Shifted
pub mod Evaluations
pub mod Extensions
pub mod Quotients
pub mod Listed
pub mod Short
pub mod OpenedCommitments
pub mod Honest
pub mod Faults
pub mod Claims
pub mod Multilinear
