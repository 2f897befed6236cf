pub mod Cells
pub mod Leaves
pub mod Twice
