mod Quotients
mod Verdicts
mod Pushed
mod PeriodicColumns
pub mod Chunks
pub mod Columns
pub mod Domains
pub mod Lengths
pub mod Named
pub mod OneTable
pub mod Shape
pub mod TerminalValues
