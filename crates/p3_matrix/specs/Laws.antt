-- What is proved of the definitions, by subject.
pub mod Cells
pub mod Grids
pub mod Transposed
pub mod Powers
pub mod Interpolants
pub mod Weights
pub mod Flattened
