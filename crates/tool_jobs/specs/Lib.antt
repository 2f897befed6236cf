pub mod Jobs
pub mod Stated
pub mod Unbalanced
pub mod Tallies
pub mod Laws
