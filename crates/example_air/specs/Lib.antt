pub mod Bytes
pub mod Meanings
pub mod Statement
pub mod Proving
pub mod Laws
