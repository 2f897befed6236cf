pub mod Lanes
pub mod PackedRows
pub mod States
pub mod Inputs
pub mod Blocks
pub mod Laws
