pub mod Laws
pub mod Batches
