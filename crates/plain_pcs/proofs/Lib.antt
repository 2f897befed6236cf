pub mod Parts
pub mod Lists
pub mod Commitments
pub mod Transfers
pub mod Evaluated
pub mod PeriodicTables
mod Openings
mod OpeningFaults
mod ClaimFaults
mod Places
mod Heights
mod Folding
mod Bounds
mod Binding
