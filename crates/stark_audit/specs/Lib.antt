pub mod Answer
pub mod Explain
pub mod Laws
