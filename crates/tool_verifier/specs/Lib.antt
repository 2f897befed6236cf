pub mod FileAnswer
pub mod Refusals
pub mod Status
pub mod Laws
