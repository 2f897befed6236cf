pub mod Honest
pub mod Quotients
pub mod Rounds
pub mod Laws
