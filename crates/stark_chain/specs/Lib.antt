pub mod Texts
pub mod Seen
pub mod Answer
pub mod Laws
