pub mod Thin
pub mod Shaped
pub mod Thinned
pub mod Whole
pub mod Sizes
