-- What is proved of the definitions, by subject.
pub mod Places
pub mod Split
pub mod Bound
pub mod Rounds
pub mod Parts
pub mod Read
pub mod Checked
pub mod Opened
pub mod Counts
pub mod Few
pub mod Accepted
pub mod Over
pub mod Swap
pub mod SwapTables
pub mod Airs
