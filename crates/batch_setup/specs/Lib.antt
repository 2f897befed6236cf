pub mod Setup
pub mod Packed
pub mod Preprocessed
pub mod SetupChecks
pub mod Verdict
pub mod Laws
