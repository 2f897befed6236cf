pub mod Factors
pub mod Found
pub mod Laws
