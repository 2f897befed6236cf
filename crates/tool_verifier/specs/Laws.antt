pub mod Stated
pub mod Meant
