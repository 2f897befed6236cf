pub mod Batch
pub mod Backend
pub mod PlainBackend
pub mod Proving
pub mod Telling
pub mod Verdict
pub mod Laws
