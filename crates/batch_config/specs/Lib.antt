pub mod Setting
pub mod Domains
