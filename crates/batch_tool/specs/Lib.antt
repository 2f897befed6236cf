pub mod Answer
pub mod Laws
pub mod Played
pub mod Uniqueness
