pub mod Claims
pub mod ClaimChecks
pub mod Laws
