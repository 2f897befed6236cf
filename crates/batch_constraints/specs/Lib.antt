pub mod BatchTrees
pub mod Sizing
pub mod Fields
pub mod Fitting
pub mod Openings
pub mod Laws
