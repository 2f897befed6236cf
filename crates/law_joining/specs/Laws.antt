pub mod Alone
pub mod Equations
pub mod Fits
pub mod Joined
pub mod Nets
pub mod Rows
pub mod Tables
