pub mod Traced
pub mod Valid
pub mod Laws
