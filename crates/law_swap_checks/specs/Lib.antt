pub mod SwapShape
pub mod SwapChecks
