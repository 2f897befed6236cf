pub mod Alone
pub mod Equational
pub mod Serving
