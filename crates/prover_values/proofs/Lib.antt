pub mod Selecting
pub mod FallingPowers
pub mod RowFits
pub mod QuotientSteps
pub mod Recombined
