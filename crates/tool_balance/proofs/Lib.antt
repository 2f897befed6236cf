pub mod Answering
pub mod Left
pub mod Lines
pub mod Lookups
pub mod Sent
pub mod Table
