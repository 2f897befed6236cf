pub mod Columns
pub mod Laws
pub mod Commitment
pub mod Instances
