pub mod Lists
pub mod Parts
pub mod Made
pub mod Memory
pub mod Rounds
