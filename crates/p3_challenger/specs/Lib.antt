pub mod Grind
pub mod Sha256
pub mod Laws
pub mod Script
pub mod Separator
pub mod States
pub mod Elements
pub mod Sha256Functions
