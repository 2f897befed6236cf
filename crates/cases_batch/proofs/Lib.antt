pub mod Cells
pub mod Periods
