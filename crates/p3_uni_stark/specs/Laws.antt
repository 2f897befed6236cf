pub mod Folds
pub mod Folders
pub mod Weights
pub mod Kinds
pub mod Parts
pub mod FoldPolynomials
pub mod Point
